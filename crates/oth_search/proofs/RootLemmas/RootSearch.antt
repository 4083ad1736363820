-- Questions to the replies of a root: what the bounds tell after them.
use Rattle.std.proofs.Common.{◌≡◌, ◌⊎◌, inl, inr, ◌<◌, arith}
use Rattle.std.specs.Prelude.{unsigned_abs, ℤ, pos, neg_ℤ, ◌+ℤ◌, ◌-ℤ◌, ◌≤ℤ◌, ◌<ℤ◌}
use Rattle.std.proofs.lemmas.Int.{ints}
use Rattle.oth_rules.specs.Laws.{IsScore}
use Rattle.oth_search.specs.Bounds.Interval.{IsInterval, Decides}

-- closer bounds decide what wider ones decide
pub Decides-closer : (a b lower upper alpha beta alpha' beta' : ℤ) → IsInterval lower upper → a ≤ℤ lower → upper ≤ℤ b → alpha' ≡ alpha → beta' ≡ beta → Decides a b alpha' beta'
    → Decides lower upper alpha beta
Decides-closer a b lower upper alpha beta alpha' beta' i low high e f d = elim d [
  | inl k ↦ inl (omega (arith, ints, i.ordered, k))
  | inr out ↦ elim out [ inl h ↦ inr (inl (omega (arith, ints, h))) | inr h ↦ inr (inr (omega (arith, ints, h))) ]
]

-- bounds that decide a threshold between them are closer
pub fewer : (a b lower upper alpha w x : ℤ) → IsInterval lower upper → a ≤ℤ alpha → alpha <ℤ b → a ≤ℤ lower → upper ≤ℤ b → w ≡ alpha → x ≡ alpha +ℤ pos 1 → Decides lower upper w x
    → unsigned_abs (upper -ℤ lower) < unsigned_abs (b -ℤ a)
fewer a b lower upper alpha w x i from to low high k e d = elim d [
  | inl f ↦ omega (arith, ints, f, i.ordered)
  | inr out ↦ elim out [ inl h ↦ omega (arith, ints, h, i.ordered) | inr h ↦ omega (arith, ints, h, i.ordered) ]
]

-- a score under another name
pub IsScore-same : (r s : ℤ) → s ≡ r → IsScore r → IsScore s
IsScore-same r s e h = record { low = omega (arith, ints, h.low); high = omega (arith, ints, h.high) }

pub IsScore-negated : (r s : ℤ) → s ≡ neg_ℤ r → IsScore r → IsScore s
IsScore-negated r s e h = record { low = omega (arith, ints, h.high); high = omega (arith, ints, h.low) }

-- one of two scores
pub IsScore-one : (r s r' s' t t' : ℤ) → IsScore r → IsScore s → r' ≡ r → s' ≡ s → t' ≡ t → (t ≡ r') ⊎ (t ≡ s') → IsScore t'
IsScore-one r s r' s' t t' h k er es et one = elim one [
  | inl e ↦ IsScore-same r t' (omega (arith, ints, e, er, et)) h
  | inr e ↦ IsScore-same s t' (omega (arith, ints, e, es, et)) k
]
