-- How bytes fit a kind of line.
use Rattle.std.proofs.Common.{◌≡◌, ℕ, zero, suc, ◌+◌, ◌-◌, ◌<◌, ◌≤◌, Bool, true, false, cond, List, [], ◌∷◌, length, drop, get_or}
use Rattle.std.proofs.Common.{arith, sym, ap, ◌∙◌, refl, add-one, add-zero, zero-add, drop-cons, ◌⊎◌, inl, inr}
use Rattle.std.proofs.lemmas.List.{drop_all}
use Rattle.oth_book.specs.declared.text.shape.Shape.{Shape}
use Rattle.oth_book.specs.declared.text.shape.Fit.{Fit}
use Rattle.oth_book.specs.declared.text.shape.Fit.TheVariants.{Whole, Cut, Misplaced}
use Rattle.oth_book.specs.Shape.{fit, fit_of, allows, shape_len, IsWhole}

cut_whole : Cut ≡ Whole → ⊥
cut_whole h = cc

misplaced_whole : Misplaced ≡ Whole → ⊥
misplaced_whole h = cc

-- which way a test went
cases_cond : (b : Bool) (x y : Fit) → {z : Fit} → cond b x y ≡ z → ((b ≡ true) × (x ≡ z)) ⊎ ((b ≡ false) × (y ≡ z))
cases_cond true x y h = inl (refl, h)
cases_cond false x y h = inr (refl, h)

-- what len places from this one on make of the bytes from this one on
abbrev pub rest_fit : Shape → ℕ → ℕ → List ℕ → Fit
rest_fit shape whole place bytes = fit shape place (whole - place) (drop place bytes)

pub fit-cut : (shape : Shape) (whole place : ℕ) (bytes : List ℕ) → place < whole → place ≡ length bytes → rest_fit shape whole place bytes ≡ Cut
unfolding fit
fit-cut shape whole place bytes h e =
    let left : whole - place ≡ suc (whole - place - 1) = omega arith in
    ap (λ k. fit shape place k (drop place bytes)) left ∙ ap (λ xs. fit shape place (suc (whole - place - 1)) xs) (drop_all place bytes (omega arith))

pub fit-next : (shape : Shape) (whole place : ℕ) (bytes : List ℕ) → place < whole → place < length bytes
    → rest_fit shape whole place bytes ≡ cond (allows shape place (get_or bytes place 0)) (rest_fit shape whole (place + 1) bytes) Misplaced
unfolding fit
fit-next shape whole place bytes h k =
    let left : whole - place ≡ suc (whole - (place + 1)) = omega arith in
    ap (λ n. fit shape place n (drop place bytes)) left
    ∙ ap (λ xs. fit shape place (suc (whole - (place + 1))) xs) (drop-cons bytes place 0 k ∙ ap (λ i. get_or bytes place 0 ∷ drop i bytes) (sym (add-one place)))

pub fit-done : (shape : Shape) (whole place : ℕ) (bytes : List ℕ) → whole ≤ place → rest_fit shape whole place bytes ≡ Whole
unfolding fit
fit-done shape whole place bytes h = let none : whole - place ≡ 0 = omega arith in ap (λ n. fit shape place n (drop place bytes)) none

pub fit-allowed : (shape : Shape) (whole place : ℕ) (bytes : List ℕ) → place < whole → place < length bytes → allows shape place (get_or bytes place 0) ≡ true
    → rest_fit shape whole place bytes ≡ rest_fit shape whole (place + 1) bytes
fit-allowed shape whole place bytes h k is = fit-next shape whole place bytes h k ∙ ap (λ b. cond b (rest_fit shape whole (place + 1) bytes) Misplaced) is

pub fit-misplaced : (shape : Shape) (whole place : ℕ) (bytes : List ℕ) → place < whole → place < length bytes → allows shape place (get_or bytes place 0) ≡ false
    → rest_fit shape whole place bytes ≡ Misplaced
fit-misplaced shape whole place bytes h k is = fit-next shape whole place bytes h k ∙ ap (λ b. cond b (rest_fit shape whole (place + 1) bytes) Misplaced) is

-- ---- a whole line

pub fit-length : (shape : Shape) (place len : ℕ) (bytes : List ℕ) → fit shape place len bytes ≡ Whole → len ≤ length bytes
unfolding fit
fit-length shape place zero bytes h = omega arith
fit-length shape place (suc len) [] h = absurd (cut_whole h)
fit-length shape place (suc len) (b ∷ bytes) h =
    elim (cases_cond (allows shape place b) (fit shape (place + 1) len bytes) Misplaced h) [
      | inl e ↦ omega (arith, fit-length shape (place + 1) len bytes e.1)
      | inr e ↦ absurd (misplaced_whole e.1)
    ]

pub fit-places : (shape : Shape) (place len : ℕ) (bytes : List ℕ) → fit shape place len bytes ≡ Whole → (i : ℕ) → i < len → allows shape (place + i) (get_or bytes i 0) ≡ true
unfolding fit
fit-places shape place zero bytes h i k = absurd (omega arith)
fit-places shape place (suc len) [] h i k = absurd (cut_whole h)
fit-places shape place (suc len) (b ∷ bytes) h zero k =
    elim (cases_cond (allows shape place b) (fit shape (place + 1) len bytes) Misplaced h) [
      | inl e ↦ rw (add-zero) e.0
      | inr e ↦ absurd (misplaced_whole e.1)
    ]
fit-places shape place (suc len) (b ∷ bytes) h (suc i) k =
    elim (cases_cond (allows shape place b) (fit shape (place + 1) len bytes) Misplaced h) [
      | inl e ↦ let at : place + suc i ≡ place + 1 + i = omega arith in rw at (fit-places shape (place + 1) len bytes e.1 i (omega arith))
      | inr e ↦ absurd (misplaced_whole e.1)
    ]

pub is_whole : (shape : Shape) (bytes : List ℕ) → fit_of shape bytes ≡ Whole → IsWhole shape bytes
is_whole shape bytes h = record {
  len = fit-length shape 0 (shape_len shape) bytes h;
  places = λ i k. ap (λ n. allows shape n (get_or bytes i 0)) (sym (zero-add i)) ∙ fit-places shape 0 (shape_len shape) bytes h i k;
}
