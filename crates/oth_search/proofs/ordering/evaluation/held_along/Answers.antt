use Rattle.std.proofs.Common.{◌≡◌, ℕ, ◌≤◌, ◌<◌, Bool, true, refl, arith}
use Rattle.std.specs.Prelude.{slice_index_or, nat_le, bit_and}
use Rattle.std.proofs.lemmas.Bool.{leb-true, agree_below, agree_below_at}
use Rattle.std.proofs.lemmas.Nat.{and_le_r}
use Rattle.oth_search.specs.declared.ordering.evaluation.TheConstants.{HELD_ALONG}
use Rattle.oth_search.proofs.ordering.evaluation.held_along.Goals as goal

-- computed for each edge
is_small : ℕ → Bool
is_small edge = nat_le (slice_index_or HELD_ALONG edge 0) 8

each_small : agree_below is_small (λ _. true) 256 ≡ true
unfolding is_small
each_small = refl

small : (edge : ℕ) → edge < 256 → slice_index_or HELD_ALONG edge 0 ≤ 8
unfolding is_small
small edge l = leb-true (slice_index_or HELD_ALONG edge 0) 8 (agree_below_at is_small (λ _. true) 256 edge each_small l)

pub returns : goal.returns
returns c = rw c.from.ensures (small (bit_and c.args.edge 255) (omega (arith, and_le_r c.args.edge 255)))
