-- A line that is an entry's, and comes next, has no fault.
use Rattle.std.proofs.Common.{◌≡◌, ◌≢◌, ℕ, ◌<◌, ◌≤◌, ◌==◌, ◌&&◌, inl, inr, Bool, true, false, List, [], ◌∷◌, ◌++◌, length, arith, sym, ap, ◌∙◌, refl, append-nil}
use Rattle.std.proofs.lemmas.Bool.Decides.{nat_tests}
use Rattle.oth_book.specs.declared.version.Version.{Version}
use Rattle.oth_book.specs.declared.claim.Claim.{Claim}
use Rattle.oth_book.specs.declared.fault.BookFault.{BookFault}
use Rattle.oth_book.specs.declared.fault.BookFault.TheVariants.{Header, Line, Order, Count, CutShort, Trailing, Memory}
use Rattle.oth_book.specs.declared.text.shape.Shape.TheVariants as shapes
use Rattle.oth_book.specs.declared.text.shape.Fit.TheVariants.{Whole}
use Rattle.oth_book.specs.Shape.{is_cell, fit_of}
use Rattle.oth_book.specs.Text.{end_line}
use Rattle.oth_book.specs.Fault.{last_of, Stand, CutLine, BadByte, EntryLine, EndLine, OneTooMany, fitted, begins, stand, IsNext, IsEntryAt, IsLineFault}
use Rattle.oth_book.proofs.EntryLemmas.{entry_line-injective}
use Rattle.oth_book.proofs.ReadLemmas.{entry_begins}
use Rattle.oth_book.proofs.LawLemmas.{end_is_no_entry}
use Rattle.oth_book.proofs.FitLemmas.{entry_fits, end_fits}
use Rattle.oth_book.proofs.LineLemmas.{end_line-append}
use Rattle.std.proofs.lemmas.List.{append_cancel_left}

no_end : (rest : List ℕ) → begins is_cell rest ≡ true → begins (λ b. b == 69) rest ≡ false
no_end [] h = refl
no_end (b ∷ rest) h = grind (arith, nat_tests)

not_full : (n : ℕ) (b : Bool) → n < 100000 → (n == 100000 && b) ≡ false
not_full n b h = grind (arith, nat_tests)

pub stand_entry : (v : Version) (n : ℕ) (rest : List ℕ) (c : Claim) → n < 100000 → IsEntryAt v rest c → stand v n rest ≡ EntryLine
unfolding stand
stand_entry v n rest c room at =
    let fits : fit_of (shapes.Entry v) rest ≡ Whole = ap (fit_of (shapes.Entry v)) at.line.1 ∙ entry_fits v c at.line.0 in
    rw (no_end rest (entry_begins v rest c at), not_full n (begins is_cell rest) room) (ap (λ f. fitted f EntryLine) fits)

-- an entry that comes next is no fault but out of memory
pub next_no_fault : (v : Version) (before : List Claim) (rest : List ℕ) (c : Claim) (f : BookFault) → IsNext v (length before) (last_of before) rest c
    → IsLineFault v (length before) (last_of before) rest f → f ≢ Memory → ⊥
next_no_fault v before rest c Header next fault other = fault
next_no_fault v before rest c (Line k) next fault other =
    let is = stand_entry v (length before) rest c next.room next.entry in
    elim (fault.1) [
      | inl bad ↦ let clash : BadByte ≡ EntryLine = sym bad ∙ is in absurd (let no : ⊥ = cc in no)
      | inr none ↦ none.1 c next.entry
    ]
next_no_fault v before rest c (Order k) next fault other =
    let d = fault.2 in
    let same = (entry_line-injective v c d _ _ next.entry.claim fault.3.claim (sym next.entry.line.1 ∙ fault.3.line.1)).0 in
    fault.4 (rw (← same) next.above)
next_no_fault v before rest c Count next fault other =
    let is = stand_entry v (length before) rest c next.room next.entry in
    elim fault [
      | inl many ↦ let clash : OneTooMany ≡ EntryLine = sym many ∙ is in absurd (let no : ⊥ = cc in no)
      | inr end ↦ let clash : EndLine ≡ EntryLine = sym end.0 ∙ is in absurd (let no : ⊥ = cc in no)
    ]
next_no_fault v before rest c CutShort next fault other =
    let is = stand_entry v (length before) rest c next.room next.entry in
    let clash : CutLine ≡ EntryLine = sym fault ∙ is in absurd (let no : ⊥ = cc in no)
next_no_fault v before rest c Trailing next fault other =
    end_is_no_entry v (length before) c fault.0 next.entry.line.0 next.entry.claim (sym fault.1 ∙ next.entry.line.1)
next_no_fault v before rest c Memory next fault other = other refl

pub stand_end : (v : Version) (n m : ℕ) (after : List ℕ) → stand v n (end_line m ++ after) ≡ EndLine
unfolding stand
stand_end v n m after =
    let begins_so : begins (λ b. b == 69) (end_line m ++ after) ≡ true = ap (begins (λ b. b == 69)) (end_line-append m after) in
    rw begins_so (ap (λ f. fitted f EndLine) (end_fits m after))

at_end : (v : Version) (before : List Claim) (rest : List ℕ) → rest ≡ end_line (length before) → stand v (length before) rest ≡ EndLine
at_end v before rest e = ap (stand v (length before)) (e ∙ sym (append-nil (end_line (length before)))) ∙ stand_end v (length before) (length before) []

-- the end of a text is no fault
pub end_no_fault : (v : Version) (before : List Claim) (rest : List ℕ) (f : BookFault) → rest ≡ end_line (length before) → IsLineFault v (length before) (last_of before) rest f → f ≢ Memory → ⊥
end_no_fault v before rest Header e fault other = fault
end_no_fault v before rest (Line k) e fault other =
    let is = at_end v before rest e in
    elim (fault.1) [
      | inl bad ↦ let clash : BadByte ≡ EndLine = sym bad ∙ is in absurd (let no : ⊥ = cc in no)
      | inr none ↦ let clash : EntryLine ≡ EndLine = sym none.0 ∙ is in absurd (let no : ⊥ = cc in no)
    ]
end_no_fault v before rest (Order k) e fault other = let clash : EntryLine ≡ EndLine = sym fault.1 ∙ at_end v before rest e in absurd (let no : ⊥ = cc in no)
end_no_fault v before rest Count e fault other =
    elim fault [
      | inl many ↦ let clash : OneTooMany ≡ EndLine = sym many ∙ at_end v before rest e in absurd (let no : ⊥ = cc in no)
      | inr end ↦ end.1 [] (e ∙ sym (append-nil (end_line (length before))))
    ]
end_no_fault v before rest CutShort e fault other = let clash : CutLine ≡ EndLine = sym fault ∙ at_end v before rest e in absurd (let no : ⊥ = cc in no)
end_no_fault v before rest Trailing e fault other = fault.2 (append_cancel_left (end_line (length before)) _ _ (sym fault.1 ∙ e ∙ sym (append-nil (end_line (length before)))))
end_no_fault v before rest Memory e fault other = other refl

-- ---- two faults of one line

-- a number for what a line begins with
abbrev stand_code : Stand → ℕ
stand_code BadByte = 0
stand_code EntryLine = 1
stand_code OneTooMany = 2
stand_code EndLine = 3
stand_code CutLine = 4

-- which of them go with a fault
abbrev Fits : BookFault → ℕ → Type 0
Fits (Line k) n = n ≤ 1
Fits (Order k) n = n ≡ 1
Fits Count n = (2 ≤ n) × (n ≤ 3)
Fits CutShort n = n ≡ 4
Fits Trailing n = n ≡ 3
Fits Header n = ⊥
Fits Memory n = Unit {0}

abbrev here : Version → List Claim → List ℕ → ℕ
here v before rest = stand_code (stand v (length before) rest)

fits_here : (v : Version) (before : List Claim) (rest : List ℕ) (f : BookFault) → IsLineFault v (length before) (last_of before) rest f → Fits f (here v before rest)
fits_here v before rest Header fault = fault
fits_here v before rest (Line k) fault = elim (fault.1) [ inl bad ↦ let n = ap stand_code bad in omega (arith, n) | inr none ↦ let n = ap stand_code none.0 in omega (arith, n) ]
fits_here v before rest (Order k) fault = ap stand_code fault.1
fits_here v before rest Count fault = elim fault [
  | inl many ↦ let n = ap stand_code many in (omega (arith, n), omega (arith, n))
  | inr end ↦ let n = ap stand_code end.0 in (omega (arith, n), omega (arith, n))
]
fits_here v before rest CutShort fault = ap stand_code fault
fits_here v before rest Trailing fault = ap stand_code (ap (stand v (length before)) fault.1 ∙ stand_end v (length before) (length before) fault.0)
fits_here v before rest Memory fault = tt

-- a bad line is no entry's
line_order : (v : Version) (before : List Claim) (rest : List ℕ) (k j : ℕ) → IsLineFault v (length before) (last_of before) rest (Line k)
    → IsLineFault v (length before) (last_of before) rest (Order j) → ⊥
line_order v before rest k j line order = elim (line.1) [
  | inl bad ↦ let n : 0 ≡ 1 = ap stand_code (sym bad ∙ order.1) in absurd (omega (arith, n))
  | inr none ↦ none.1 order.2 order.3
]

-- another count is no end with bytes after it
count_trailing : (v : Version) (before : List Claim) (rest : List ℕ) → IsLineFault v (length before) (last_of before) rest Count → IsLineFault v (length before) (last_of before) rest Trailing → ⊥
count_trailing v before rest count trailing =
    let end = fits_here v before rest Trailing trailing in
    elim count [
      | inl many ↦ let n = ap stand_code many in absurd (omega (arith, n, end))
      | inr other ↦ other.1 trailing.0 trailing.1
    ]

pub line_once : (v : Version) (before : List Claim) (rest : List ℕ) (f g : BookFault) → IsLineFault v (length before) (last_of before) rest f
    → IsLineFault v (length before) (last_of before) rest g → f ≢ Memory → g ≢ Memory → f ≡ g
line_once v before rest Header g a b p q = absurd a
line_once v before rest Memory g a b p q = absurd (p refl)
line_once v before rest (Line k) Header a b p q = absurd b
line_once v before rest (Line k) Memory a b p q = absurd (q refl)
line_once v before rest (Line k) (Line j) a b p q = ap Line (a.0 ∙ sym b.0)
line_once v before rest (Line k) (Order j) a b p q = absurd (line_order v before rest k j a b)
line_once v before rest (Line k) Count a b p q = let x = fits_here v before rest (Line k) a in let y = fits_here v before rest Count b in absurd (omega (arith, x, y))
line_once v before rest (Line k) CutShort a b p q = let x = fits_here v before rest (Line k) a in let y = fits_here v before rest CutShort b in absurd (omega (arith, x, y))
line_once v before rest (Line k) Trailing a b p q = let x = fits_here v before rest (Line k) a in let y = fits_here v before rest Trailing b in absurd (omega (arith, x, y))
line_once v before rest (Order k) Header a b p q = absurd b
line_once v before rest (Order k) Memory a b p q = absurd (q refl)
line_once v before rest (Order k) (Line j) a b p q = absurd (line_order v before rest j k b a)
line_once v before rest (Order k) (Order j) a b p q = ap Order (a.0 ∙ sym b.0)
line_once v before rest (Order k) Count a b p q = let x = fits_here v before rest (Order k) a in let y = fits_here v before rest Count b in absurd (omega (arith, x, y))
line_once v before rest (Order k) CutShort a b p q = let x = fits_here v before rest (Order k) a in let y = fits_here v before rest CutShort b in absurd (omega (arith, x, y))
line_once v before rest (Order k) Trailing a b p q = let x = fits_here v before rest (Order k) a in let y = fits_here v before rest Trailing b in absurd (omega (arith, x, y))
line_once v before rest Count Header a b p q = absurd b
line_once v before rest Count Memory a b p q = absurd (q refl)
line_once v before rest Count (Line j) a b p q = let x = fits_here v before rest Count a in let y = fits_here v before rest (Line j) b in absurd (omega (arith, x, y))
line_once v before rest Count (Order j) a b p q = let x = fits_here v before rest Count a in let y = fits_here v before rest (Order j) b in absurd (omega (arith, x, y))
line_once v before rest Count Count a b p q = refl
line_once v before rest Count CutShort a b p q = let x = fits_here v before rest Count a in let y = fits_here v before rest CutShort b in absurd (omega (arith, x, y))
line_once v before rest Count Trailing a b p q = absurd (count_trailing v before rest a b)
line_once v before rest CutShort Header a b p q = absurd b
line_once v before rest CutShort Memory a b p q = absurd (q refl)
line_once v before rest CutShort (Line j) a b p q = let x = fits_here v before rest CutShort a in let y = fits_here v before rest (Line j) b in absurd (omega (arith, x, y))
line_once v before rest CutShort (Order j) a b p q = let x = fits_here v before rest CutShort a in let y = fits_here v before rest (Order j) b in absurd (omega (arith, x, y))
line_once v before rest CutShort Count a b p q = let x = fits_here v before rest CutShort a in let y = fits_here v before rest Count b in absurd (omega (arith, x, y))
line_once v before rest CutShort CutShort a b p q = refl
line_once v before rest CutShort Trailing a b p q = let x = fits_here v before rest CutShort a in let y = fits_here v before rest Trailing b in absurd (omega (arith, x, y))
line_once v before rest Trailing Header a b p q = absurd b
line_once v before rest Trailing Memory a b p q = absurd (q refl)
line_once v before rest Trailing (Line j) a b p q = let x = fits_here v before rest Trailing a in let y = fits_here v before rest (Line j) b in absurd (omega (arith, x, y))
line_once v before rest Trailing (Order j) a b p q = let x = fits_here v before rest Trailing a in let y = fits_here v before rest (Order j) b in absurd (omega (arith, x, y))
line_once v before rest Trailing Count a b p q = absurd (count_trailing v before rest b a)
line_once v before rest Trailing CutShort a b p q = let x = fits_here v before rest Trailing a in let y = fits_here v before rest CutShort b in absurd (omega (arith, x, y))
line_once v before rest Trailing Trailing a b p q = refl
