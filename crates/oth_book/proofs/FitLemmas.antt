-- The line of an entry fits the shape of an entry's line.
use Rattle.std.proofs.Common.{◌≡◌, ℕ, zero, suc, ◌+◌, ◌-◌, ◌/◌, ◌%◌, ◌<◌, ◌≤◌, inl, inr, Bool, true, cond, List, [], ◌∷◌, ◌++◌}
use Rattle.std.proofs.Common.{length, get_or, unsigned_abs, ℤ, pos, negsuc, arith, sym, ap, ◌∙◌, refl, lit<, add-zero}
use Rattle.std.proofs.Math.Nat.{mod-lt}
use Rattle.std.proofs.Math.Seq.{get_or-append_seam}
use Rattle.std.proofs.lemmas.Bool.{cases_lt}
use Rattle.std.proofs.lemmas.Bool.Decides.{nat_tests}
use Rattle.std.proofs.Math.ListN.{get_or-append}
use Rattle.oth_rules.specs.Position.{cell}
use Rattle.oth_rules.specs.declared.scoring.Scoring.TheVariants.{Winner, Discs}
use Rattle.oth_book.specs.declared.version.Version.{Version}
use Rattle.oth_book.specs.declared.version.Version.TheVariants.{One, Two}
use Rattle.oth_book.specs.declared.claim.Claim.{Claim}
use Rattle.oth_book.specs.declared.text.shape.Shape.{Shape}
use Rattle.oth_book.specs.declared.text.shape.Shape.TheVariants.{Header, Entry, End}
use Rattle.oth_book.specs.declared.text.shape.Fit.TheVariants.{Whole, Cut, Misplaced}
use Rattle.oth_book.specs.Shape.{fit, fit_of, header, allows, allows_in_entry, allows_in_bounds, bounds_len, is_cell, is_digit, is_hex_digit, is_sign}
use Rattle.oth_book.specs.Order.{cells}
use Rattle.oth_book.specs.Numeral.{numeral, digit_byte}
use Rattle.oth_book.specs.Text.{entry_line, end_line, sign_byte, signed, bounds_text}
use Rattle.oth_book.proofs.CellLemmas.{length-cells, get_or-cells}
use Rattle.oth_book.proofs.NumeralLemmas.{length-numeral}
use Rattle.oth_book.proofs.LineLemmas.{joined, end_line-append}
use Rattle.oth_book.proofs.EntryLemmas.{entry_line-append, length-bounds_text}
use Rattle.oth_book.proofs.ReadLemmas.{mark_is_cell}

-- one byte that is allowed
fit-one : (shape : Shape) (place len b : ℕ) (bytes : List ℕ) → allows shape place b ≡ true → fit shape place (suc len) (b ∷ bytes) ≡ fit shape (place + 1) len bytes
unfolding fit
fit-one shape place len b bytes h = ap (λ x. cond x (fit shape (place + 1) len bytes) Misplaced) h

fit-none : (shape : Shape) (place : ℕ) (bytes : List ℕ) → fit shape place 0 bytes ≡ Whole
unfolding fit
fit-none shape place bytes = refl

-- bytes that are each allowed at their places
fit-front : (shape : Shape) (place len : ℕ) (front bytes : List ℕ) → ((i : ℕ) → i < length front → allows shape (place + i) (get_or front i 0) ≡ true)
    → fit shape place (length front + len) (front ++ bytes) ≡ fit shape (place + length front) len bytes
fit-front shape place len [] bytes h = ap (λ n. fit shape place n bytes) (omega_zero len) ∙ ap (λ p. fit shape p len bytes) (sym (add-zero place))
  where
    omega_zero : (len : ℕ) → 0 + len ≡ len
    omega_zero len = omega arith
fit-front shape place len (b ∷ front) bytes h =
    let more : suc (length front) + len ≡ suc (length front + len) = omega arith in
    let next : place + 1 + length front ≡ place + suc (length front) = omega arith in
    ap (λ n. fit shape place n (b ∷ (front ++ bytes))) more
    ∙ fit-one shape place (length front + len) b (front ++ bytes) (ap (λ p. allows shape p b) (sym (add-zero place)) ∙ h 0 (omega arith))
    ∙ fit-front shape (place + 1) len front bytes (λ i k. ap (λ p. allows shape p (get_or front i 0)) (shift place i) ∙ h (suc i) (omega arith))
    ∙ ap (λ p. fit shape p len bytes) next
  where
    shift : (place i : ℕ) → place + 1 + i ≡ place + suc i
    shift place i = omega arith

decimal_byte : (d : ℕ) → d < 10 → is_digit (digit_byte d) ≡ true
decimal_byte d h = grind (arith, nat_tests)

hex_byte : (d : ℕ) → d < 16 → is_hex_digit (digit_byte d) ≡ true
hex_byte d h = grind (arith, nat_tests)

-- each digit of a numeral passes a test that the digits of the base pass
digits_pass : (p : ℕ → Bool) (base len n : ℕ) → 0 < base → ((d : ℕ) → d < base → p (digit_byte d) ≡ true) → (i : ℕ) → i < len → p (get_or (numeral base len n) i 0) ≡ true
unfolding numeral
digits_pass p base zero n positive h i k = absurd (omega arith)
digits_pass p base (suc len) n positive h i k =
    let size = length-numeral base len (n / base) in
    elim (cases_lt i len) [
      | inl below ↦ ap p (get_or-append (numeral base len (n / base)) (digit_byte (n % base) ∷ []) 0 i (omega (arith, size))) ∙ digits_pass p base len (n / base) positive h i below
      | inr above ↦ let e : i ≡ length (numeral base len (n / base)) = omega (arith, size) in
          ap (λ j. p (get_or (numeral base len (n / base) ++ digit_byte (n % base) ∷ []) j 0)) e
          ∙ ap p (get_or-append_seam (numeral base len (n / base)) (digit_byte (n % base)) [] 0)
          ∙ h (n % base) (mod-lt n positive)
    ]

-- a part of a line
fit-part : (shape : Shape) (place next len rest : ℕ) (front bytes : List ℕ) → len ≡ length front + rest → next ≡ place + length front
    → ((i : ℕ) → i < length front → allows shape (place + i) (get_or front i 0) ≡ true) → fit shape place len (front ++ bytes) ≡ fit shape next rest bytes
fit-part shape place next len rest front bytes e f h =
    ap (λ n. fit shape place n (front ++ bytes)) e ∙ fit-front shape place rest front bytes h ∙ ap (λ p. fit shape p rest bytes) (sym f)

cell_allowed : (n i b : ℕ) → i < 64 → is_cell b ≡ true → allows_in_entry n i b ≡ true
cell_allowed n i b h a = grind (arith, nat_tests)

bound_allowed : (n i b : ℕ) → 65 ≤ i → i < 65 + n → allows_in_entry n i b ≡ allows_in_bounds (i - 65) b
bound_allowed n i b h k = grind (arith, nat_tests)

gap_allowed : (n i b : ℕ) → i ≡ 65 + n → b ≡ 32 → allows_in_entry n i b ≡ true
gap_allowed n i b h a = grind (arith, nat_tests)

hex_allowed : (n i b : ℕ) → 66 + n ≤ i → i < 82 + n → is_hex_digit b ≡ true → allows_in_entry n i b ≡ true
hex_allowed n i b h k a = grind (arith, nat_tests)

stop_allowed : (n i b : ℕ) → i ≡ 82 + n → b ≡ 10 → allows_in_entry n i b ≡ true
stop_allowed n i b h a = grind (arith, nat_tests)

space_allowed : (n i b : ℕ) → i ≡ 64 → b ≡ 32 → allows_in_entry n i b ≡ true
space_allowed n i b h a = grind (arith, nat_tests)

sign_allowed : (z : ℤ) → is_sign (sign_byte z) ≡ true
sign_allowed (pos n) = refl
sign_allowed (negsuc n) = refl

digit_at : (n : ℕ) → is_digit (digit_byte (n % 10)) ≡ true
digit_at n = decimal_byte (n % 10) (mod-lt n (lit< tt))

bounds_allowed : (v : Version) (l u : ℤ) (i : ℕ) → i < bounds_len v → allows_in_bounds i (get_or (bounds_text v l u) i 0) ≡ true
unfolding bounds_text signed numeral
bounds_allowed One l u zero h = sign_allowed l
bounds_allowed One l u (suc zero) h = digit_at (unsigned_abs l / 10)
bounds_allowed One l u (suc (suc zero)) h = digit_at (unsigned_abs l)
bounds_allowed One l u (suc (suc (suc i))) h = absurd (omega arith)
bounds_allowed (Two g) l u zero h = sign_allowed l
bounds_allowed (Two g) l u (suc zero) h = digit_at (unsigned_abs l / 10)
bounds_allowed (Two g) l u (suc (suc zero)) h = digit_at (unsigned_abs l)
bounds_allowed (Two g) l u (suc (suc (suc zero))) h = refl
bounds_allowed (Two g) l u (suc (suc (suc (suc zero)))) h = sign_allowed u
bounds_allowed (Two g) l u (suc (suc (suc (suc (suc zero))))) h = digit_at (unsigned_abs u / 10)
bounds_allowed (Two g) l u (suc (suc (suc (suc (suc (suc zero)))))) h = digit_at (unsigned_abs u)
bounds_allowed (Two g) l u (suc (suc (suc (suc (suc (suc (suc i))))))) h = absurd (omega arith)

-- a line of an entry whose bounds take n bytes
line_fits : (v : Version) (n : ℕ) (board bounds best after : List ℕ) → n ≡ bounds_len v → length board ≡ 64 → length bounds ≡ n → length best ≡ 16
    → ((i : ℕ) → i < 64 → is_cell (get_or board i 0) ≡ true) → ((i : ℕ) → i < n → allows_in_bounds i (get_or bounds i 0) ≡ true) → ((i : ℕ) → i < 16 → is_hex_digit (get_or best i 0) ≡ true)
    → fit (Entry v) 0 (83 + n) (joined board bounds best after) ≡ Whole
line_fits v n board bounds best after is lc ln lb hc hn hb =
    let at : (i b : ℕ) → allows_in_entry n i b ≡ true → allows (Entry v) i b ≡ true = λ i b h. rw (← is) h in
    fit-part (Entry v) 0 64 (83 + n) (19 + n) board _ (omega (arith, lc)) (omega (arith, lc))
    (λ i k. at (0 + i) (get_or board i 0) (cell_allowed n (0 + i) (get_or board i 0) (omega (arith, lc)) (hc i (omega (arith, lc)))))
    ∙ fit-part (Entry v) 64 65 (19 + n) (18 + n) (32 ∷ []) _ (omega arith) (omega arith)
    (λ i k. at (64 + i) (get_or (32 ∷ []) i 0) (space_allowed n (64 + i) (get_or (32 ∷ []) i 0) (omega arith) (only 32 i k)))
    ∙ fit-part (Entry v) 65 (65 + n) (18 + n) 18 bounds _ (omega (arith, ln)) (omega (arith, ln))
    (λ i k. at (65 + i) (get_or bounds i 0) (bound_allowed n (65 + i) (get_or bounds i 0) (omega arith) (omega (arith, ln))
    ∙ ap (λ j. allows_in_bounds j (get_or bounds i 0)) (back i) ∙ hn i (omega (arith, ln))))
    ∙ fit-part (Entry v) (65 + n) (66 + n) 18 17 (32 ∷ []) _ (omega arith) (omega arith)
    (λ i k. at (65 + n + i) (get_or (32 ∷ []) i 0) (gap_allowed n (65 + n + i) (get_or (32 ∷ []) i 0) (omega arith) (only 32 i k)))
    ∙ fit-part (Entry v) (66 + n) (82 + n) 17 1 best _ (omega (arith, lb)) (omega (arith, lb))
    (λ i k. at (66 + n + i) (get_or best i 0) (hex_allowed n (66 + n + i) (get_or best i 0) (omega arith) (omega (arith, lb)) (hb i (omega (arith, lb)))))
    ∙ fit-part (Entry v) (82 + n) (83 + n) 1 0 (10 ∷ []) after (omega arith) (omega arith)
    (λ i k. at (82 + n + i) (get_or (10 ∷ []) i 0) (stop_allowed n (82 + n + i) (get_or (10 ∷ []) i 0) (omega arith) (only 10 i k)))
    ∙ fit-none (Entry v) (83 + n) after
  where
    only : (b i : ℕ) → i < 1 → get_or (b ∷ []) i 0 ≡ b
    only b zero h = refl
    only b (suc i) h = absurd (omega arith)

    back : (i : ℕ) → 65 + i - 65 ≡ i
    back i = omega arith

pub entry_fits : (v : Version) (c : Claim) (after : List ℕ) → fit_of (Entry v) (entry_line v c ++ after) ≡ Whole
entry_fits v c after =
    ap (fit (Entry v) 0 (83 + bounds_len v)) (entry_line-append v c after)
    ∙ line_fits v (bounds_len v) (cells c.board) (bounds_text v c.lower c.upper) (numeral 16 16 c.best) after refl (length-cells c.board) (length-bounds_text v c.lower c.upper)
    (length-numeral 16 16 c.best)
    (λ i w. ap is_cell (get_or-cells c.board i w) ∙ mark_is_cell (cell c.board i)) (bounds_allowed v c.lower c.upper)
    (λ i w. digits_pass is_hex_digit 16 16 c.best (lit< tt) hex_byte i w)

end_digit_allowed : (i b : ℕ) → 4 ≤ i → i < 10 → is_digit b ≡ true → allows End i b ≡ true
end_digit_allowed i b h k a = grind (arith, nat_tests)

pub end_fits : (n : ℕ) (after : List ℕ) → fit_of End (end_line n ++ after) ≡ Whole
end_fits n after =
    let number = numeral 10 6 n in
    let ln = length-numeral 10 6 n in
    ap (fit End 0 11) (end_line-append n after)
    ∙ fit-one End 0 10 69 _ refl ∙ fit-one End 1 9 78 _ refl ∙ fit-one End 2 8 68 _ refl ∙ fit-one End 3 7 32 _ refl
    ∙ ap (λ m. fit End 4 (m + 1) (number ++ (10 ∷ after))) (sym ln)
    ∙ fit-front End 4 1 number (10 ∷ after)
    (λ i k. let w : i < 6 = omega (arith, ln) in end_digit_allowed (4 + i) (get_or number i 0) (omega arith) (omega arith) (digits_pass is_digit 10 6 n (lit< tt) decimal_byte i w))
    ∙ ap (λ p. fit End (4 + p) 1 (10 ∷ after)) ln
    ∙ fit-one End 10 0 10 after refl
    ∙ fit-none End 11 after

pub header_fits : (v : Version) (after : List ℕ) → fit_of (Header v) (header v ++ after) ≡ Whole
unfolding fit header
header_fits One after = refl
header_fits (Two Winner) after = refl
header_fits (Two Discs) after = refl

pub header_not_cut : (v w : Version) (after : List ℕ) → fit_of (Header w) (header v ++ after) ≡ Cut → ⊥
unfolding fit header
header_not_cut One One after h = let clash : Whole ≡ Cut = h in absurd (let no : ⊥ = cc in no)
header_not_cut One (Two Winner) after h = let clash : Misplaced ≡ Cut = h in absurd (let no : ⊥ = cc in no)
header_not_cut One (Two Discs) after h = let clash : Misplaced ≡ Cut = h in absurd (let no : ⊥ = cc in no)
header_not_cut (Two Winner) One after h = let clash : Misplaced ≡ Cut = h in absurd (let no : ⊥ = cc in no)
header_not_cut (Two Winner) (Two Winner) after h = let clash : Whole ≡ Cut = h in absurd (let no : ⊥ = cc in no)
header_not_cut (Two Winner) (Two Discs) after h = let clash : Misplaced ≡ Cut = h in absurd (let no : ⊥ = cc in no)
header_not_cut (Two Discs) One after h = let clash : Misplaced ≡ Cut = h in absurd (let no : ⊥ = cc in no)
header_not_cut (Two Discs) (Two Winner) after h = let clash : Misplaced ≡ Cut = h in absurd (let no : ⊥ = cc in no)
header_not_cut (Two Discs) (Two Discs) after h = let clash : Whole ≡ Cut = h in absurd (let no : ⊥ = cc in no)
