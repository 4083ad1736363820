-- A line of which only the front is kept.
use Rattle.std.proofs.Common.{◌≡◌, ◌+◌, ◌<◌, ◌==◌, ℕ, List, ◌++◌, false, min, length, take, refl, sym, ap, ◌∙◌, arith, inl, inr, append-nil}
use Rattle.std.proofs.lemmas.Bool.{cases_lt, ne_eqb}
use Rattle.std.proofs.lemmas.List.{take_all, take_min, take-append-le, length-take-le}
use Rattle.std.proofs.Math.Seq.{take-append-add}
use Rattle.oth_text.specs.BoardLine.{KeepsLine, first_fault, if_solvable, reading, solvable_reading}

-- the front of a line, up to a number of bytes, and further bytes
pub kept_more : (most : ℕ) (kept line bytes : List ℕ) (room count : ℕ) → kept ≡ take most line → room + length kept ≡ most → count ≡ min room (length bytes)
    → kept ++ take count bytes ≡ take most (line ++ bytes)
kept_more most kept line bytes room count keeps all is = elim (cases_lt most (length line)) [
  | inl l ↦
      let short : length kept ≡ most = ap length keeps ∙ length-take-le most line (omega arith) in
      let none : count ≡ 0 = omega arith in
      ap (λ n. kept ++ take n bytes) none ∙ append-nil kept ∙ keeps ∙ sym (take-append-le most line bytes (omega arith))
  | inr l ↦
      let whole : kept ≡ line = keeps ∙ take_all most line l in
      let len = ap length whole in
      let sum : most ≡ length line + room = omega arith in
      ap (λ n. kept ++ take n bytes) is ∙ ap (λ xs. kept ++ xs) (take_min room bytes) ∙ ap (λ xs. xs ++ take room bytes) whole
      ∙ sym (ap (λ n. take n (line ++ bytes)) sum ∙ take-append-add line bytes room)
]

-- the front tells that a line is too long
pub reading-front : (most : ℕ) (kept line : List ℕ) → 66 < most → kept ≡ take most line → reading kept ≡ reading line
unfolding reading first_fault
reading-front most kept line longer keeps = elim (cases_lt most (length line)) [
  | inl l ↦
      let short : length kept ≡ most = ap length keeps ∙ length-take-le most line (omega arith) in
      let test : (length kept == 66) ≡ false = ne_eqb _ _ (λ e. absurd (omega arith)) in
      let other : (length line == 66) ≡ false = ne_eqb _ _ (λ e. absurd (omega arith)) in
      rw (test, other) refl
  | inr l ↦ let whole : kept ≡ line = keeps ∙ take_all most line l in rw whole refl
]

pub reading-kept : (kept line : List ℕ) → KeepsLine kept line → reading kept ≡ reading line
reading-kept kept line keeps = reading-front 67 kept line (omega arith) keeps

pub solvable_reading-kept : (kept line : List ℕ) → KeepsLine kept line → solvable_reading kept ≡ solvable_reading line
unfolding solvable_reading
solvable_reading-kept kept line keeps = ap if_solvable (reading-kept kept line keeps)

pub kept_length : (kept line : List ℕ) → KeepsLine kept line → (length kept == 66) ≡ (length line == 66)
kept_length kept line keeps = elim (cases_lt 67 (length line)) [
  | inl l ↦
      let short : length kept ≡ 67 = ap length keeps ∙ length-take-le 67 line (omega arith) in
      ne_eqb (length kept) 66 (λ e. absurd (omega arith)) ∙ sym (ne_eqb (length line) 66 (λ e. absurd (omega arith)))
  | inr l ↦ ap (λ n. n == 66) (ap length (keeps ∙ take_all 67 line l))
]
