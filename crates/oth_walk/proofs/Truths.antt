-- Each step of the bounds of root moves keeps their rule.
use Rattle.std.proofs.Common.{◌≡◌, ℕ, zero, suc, ◌+◌, ◌-◌, max, ℤ, pos, neg_ℤ, ◌-ℤ◌, ◌≤ℤ◌, Bool, true, false, nat_le, if◌then◌else◌, List, [], ◌∷◌}
use Rattle.std.proofs.Common.{slice_index, replicate, sym, refl, ap, subst, arith, set, to_z, of_z, w8}
use Rattle.std.proofs.lemmas.Bool.Decides.{nat_tests}
use Rattle.std.proofs.Math.ListN.{get_or}
use Rattle.std.proofs.lemmas.Int.{ints}
use mathlib.Core.Option.{none}
use Rattle.atomic_table.specs.Table.{State, step, keeps, Allows}
use Rattle.oth_rules.proofs.Scores.{value_bounds, negated}
use Rattle.oth_rules.specs.Laws.{IsScore}
use Rattle.oth_rules.specs.Move.{after}
use Rattle.oth_pieces.specs.declared.floor.root.Root.{Root}
use Rattle.oth_walk.specs.MoveBounds.{child_value, limit, AreTrue, Finds}

-- after one word was set, what held of each word holds of each, if it holds of the new one
each_set : (l : List ℕ) (i a j : ℕ) (P : ℕ → Type 0) → P (get_or l j 0) → (j ≡ i → P a) → P (get_or (set l i a) j 0)
each_set [] i a j P old new = old
each_set (x ∷ xs) zero a zero P old new = new refl
each_set (x ∷ xs) zero a (suc j) P old new = old
each_set (x ∷ xs) (suc i) a zero P old new = old
each_set (x ∷ xs) (suc i) a (suc j) P old new = each_set xs i a j P old (λ e. new (ap suc e))

abbrev Tells : Root → ℕ → ℕ → Type 0
Tells root i n = (pos n -ℤ pos 64) ≤ℤ limit root i

greatest : (a b : ℕ) (z : ℤ) → (pos a -ℤ pos 64) ≤ℤ z → (pos b -ℤ pos 64) ≤ℤ z → (pos (max a b) -ℤ pos 64) ≤ℤ z
greatest a b z one other = omega (arith, ints)

abbrev Rule : Root → State ℕ Root → Type 0
Rule root s = AreTrue root s.words

pub looks : (root v : Root) (slots seat i : ℕ) (c : List (ℕ × ℕ)) → v ≡ root
    → Allows (Rule root) slots seat (v, c) i (λ n. n) (Finds (step slots i 0 0 none) (v, c))
looks root v slots seat i c same s kept _ _ _ = (
  v,
  keeps,
  tt,
  (λ j. each_set s.words i (slice_index s.words i) j (Tells root j) (kept j) (λ e. subst (λ k. Tells root k (slice_index s.words i)) (sym e) (kept i))),
  (refl, subst (λ (r : Root). Tells r i (slice_index s.words i)) (sym same) (kept i)),
)

pub raises : (root v : Root) (slots seat i : ℕ) (c : List (ℕ × ℕ)) (k : ℕ) → v ≡ root → (pos k -ℤ pos 64) ≤ℤ limit root i
    → Allows (Rule root) slots seat (v, c) i (λ n. max n k) (Finds (step slots i k 0 none) (v, c))
raises root v slots seat i c k same true_bound s kept _ _ _ = (
  v,
  keeps,
  tt,
  (λ j. each_set s.words i (max (slice_index s.words i) k) j (Tells root j) (kept j)
      (λ e. subst (λ w. Tells root w (max (slice_index s.words i) k)) (sym e) (greatest (slice_index s.words i) k (limit root i) (kept i) true_bound))),
  (refl, subst (λ (r : Root). Tells r i (slice_index s.words i)) (sym same) (kept i)),
)

child_bounds : (root : Root) (i : ℕ) → IsScore (child_value root i)
child_bounds root i = value_bounds root.scoring (after root.board i)

replicated : (x n i : ℕ) → get_or (replicate n x) i x ≡ x
replicated x zero i = refl
replicated x (suc n) zero = refl
replicated x (suc n) (suc i) = replicated x n i

turned : (x : ℤ) → IsScore x → IsScore (neg_ℤ x)
turned x h = record { low = omega (arith, ints, h.high); high = omega (arith, ints, h.low) }

each : (b : Bool) (x y : ℤ) → IsScore x → IsScore y → IsScore (if b then x else y)
each true x y one other = one
each false x y one other = other

-- what a word may tell is a score
pub limits : (root : Root) (i : ℕ) → IsScore (limit root i)
limits root i = each (nat_le 64 i) (neg_ℤ (child_value root (i - 64))) (child_value root i) (turned _ (child_bounds root (i - 64))) (child_bounds root i)

pub nothing_told : (root : Root) → AreTrue root (replicate 128 0)
nothing_told root i = let none : slice_index (replicate 128 0) i ≡ 0 = replicated 0 128 i in let low = (limits root i).low in omega (arith, ints)

pub upper_limit : (root : Root) (square : ℕ) → limit root (64 + square) ≡ neg_ℤ (child_value root square)
upper_limit root square =
    let test : nat_le 64 (64 + square) ≡ true = grind (arith, nat_tests) in
    let there : (64 + square) - 64 ≡ square = omega arith in
    rw (test, there) refl

-- the negated upper bound of a board after a move is no more than its word may tell
pub least : (root : Root) (square : ℕ) (upper v : ℤ) → upper ≤ℤ pos 64 → v ≤ℤ upper → IsScore v → v ≡ child_value root square
    → to_z w8 (of_z w8 (pos 0 -ℤ to_z w8 (of_z w8 upper))) ≤ℤ limit root (64 + square)
least root square upper v high above score same =
    let is : to_z w8 (of_z w8 (pos 0 -ℤ to_z w8 (of_z w8 upper))) ≡ neg_ℤ upper = negated upper (record { low = let l = score.low in omega (arith, ints); high = high }) in
    let at : limit root (64 + square) ≡ neg_ℤ (child_value root square) = upper_limit root square in
    omega (arith, ints)
