-- A number of type i8, and its negation, as a call and a return read it.
use Rattle.std.proofs.Common.{◌≡◌, arith, w8, to_z, of_z}
use Rattle.std.specs.Prelude.{ℤ, pos, neg_ℤ, ◌+ℤ◌, ◌-ℤ◌}
use Rattle.std.proofs.lemmas.Int.{ints}
use Rattle.oth_rules.specs.Laws.{IsScore}
use Rattle.oth_search.specs.Bounds.Interval.{IsThreshold, IsInterval, IsInner}

pub read-lower : (lower upper : ℤ) → IsInterval lower upper → to_z w8 (of_z w8 lower) ≡ lower
read-lower lower upper i = let low = i.low in let ordered = i.ordered in let high = i.high in omega (arith, ints)

pub read-upper : (lower upper : ℤ) → IsInterval lower upper → to_z w8 (of_z w8 upper) ≡ upper
read-upper lower upper i = let low = i.low in let ordered = i.ordered in let high = i.high in omega (arith, ints)

pub read-negated : (z : ℤ) → IsScore z → to_z w8 (of_z w8 (pos 0 -ℤ to_z w8 (of_z w8 z))) ≡ neg_ℤ z
read-negated z s = let low = s.low in let high = s.high in omega (arith, ints)

pub read-negated_alpha : (alpha beta : ℤ) → IsInner alpha beta → to_z w8 (of_z w8 (pos 0 -ℤ to_z w8 (of_z w8 alpha))) ≡ neg_ℤ alpha
read-negated_alpha alpha beta w = let low = w.low in let ordered = w.ordered in let high = w.high in omega (arith, ints)

pub read-negated_beta : (alpha beta : ℤ) → IsInner alpha beta → to_z w8 (of_z w8 (pos 0 -ℤ to_z w8 (of_z w8 beta))) ≡ neg_ℤ beta
read-negated_beta alpha beta w = let low = w.low in let ordered = w.ordered in let high = w.high in omega (arith, ints)

-- the threshold of a reply
pub read-reply : (alpha : ℤ) → IsThreshold alpha → to_z w8 (of_z w8 (to_z w8 (of_z w8 (pos 0 -ℤ to_z w8 (of_z w8 alpha))) -ℤ pos 1)) ≡ neg_ℤ alpha -ℤ pos 1
read-reply alpha a = let low = a.low in let high = a.high in omega (arith, ints)

pub read-reply_read : (alpha : ℤ) → IsThreshold alpha
    → to_z w8 (of_z w8 (to_z w8 (of_z w8 (pos 0 -ℤ to_z w8 (of_z w8 alpha))) -ℤ pos 1)) ≡ neg_ℤ (to_z w8 (of_z w8 alpha)) -ℤ pos 1
read-reply_read alpha a = let low = a.low in let high = a.high in omega (arith, ints)

pub IsScore-lower : (lower upper : ℤ) → IsInterval lower upper → IsScore lower
IsScore-lower lower upper i = record { low = i.low; high = omega (arith, ints, i.ordered, i.high) }

-- the number behind the limit of a reply
pub read-limit : (score z : ℤ) → IsScore z → z ≡ score → to_z w8 (of_z w8 (pos 0 -ℤ z)) +ℤ pos 1 ≡ pos 1 -ℤ score
read-limit score z s e = let low = s.low in let high = s.high in omega (arith, ints, e)
