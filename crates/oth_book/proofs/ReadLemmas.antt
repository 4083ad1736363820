-- A book's text from the left: one more entry, and what follows the last.
use Rattle.std.proofs.Common.{◌≡◌, ℕ, zero, suc, ◌+◌, ◌-◌, ◌<◌, ◌≤◌, inl, inr, List, [], ◌∷◌, ◌++◌, length, drop, get_or, slice_get, Option, Some, arith}
use Rattle.std.proofs.Common.{sym, ap, subst, ◌∙◌, refl, append_assoc, append-nil, length-append, lit<, lit≤, true, ◌^◌, eqb-true}
use Rattle.std.proofs.Math.Seq.{drop-append_seam}
use Rattle.std.proofs.lemmas.List.Quantifiers.{all_pairs_push}
use Rattle.std.proofs.lemmas.List.Elements.{All-push}
use Rattle.std.proofs.lemmas.Grind.{flat_map-append}
use Rattle.std.proofs.lemmas.Bool.{cases_eq}
use Rattle.std.proofs.lemmas.Cmp.{nat_list_cmp_total}
use Rattle.oth_rules.specs.Position.{Position, Cell, Mine, Theirs, Empty, cell}
use Rattle.oth_rules.specs.Square.{squares}
use Rattle.oth_book.specs.declared.claim.Claim.{Claim}
use Rattle.oth_rules.specs.declared.scoring.Scoring.{Scoring}
use Rattle.oth_rules.specs.declared.scoring.Scoring.TheVariants.{Winner, Discs}
use Rattle.oth_book.specs.declared.version.Version.{Version}
use Rattle.oth_book.specs.declared.version.Version.TheVariants.{One, Two}
use Rattle.oth_book.specs.declared.text.shape.Shape.TheVariants.{Header}
use Rattle.oth_book.specs.declared.text.shape.Fit.TheVariants.{Whole}
use Rattle.oth_book.specs.Order.{cells, mark, board_cmp, IsBelow}
use Rattle.oth_book.specs.Numeral.{numeral}
use Rattle.oth_book.specs.Shape.{header, header_len, bounds_len, is_cell, fit_of, IsWhole}
use Rattle.oth_book.specs.Text.{entry_line, bounds_text, end_line, lines, IsClaim, AreClaims}
use Rattle.oth_book.specs.Fault.{last_of, Begins, begins, IsNext, IsAboveLast, IsEntryAt, IsLineFault}
use Rattle.oth_book.specs.declared.fault.BookFault.{BookFault}
use Rattle.oth_book.proofs.CellLemmas.{length-cells}
use Rattle.oth_book.proofs.NumeralLemmas.{length-numeral}
use Rattle.oth_book.proofs.LineLemmas.{drop-byte, end_line-append, joined}
use Rattle.oth_book.proofs.ShapeLemmas.{is_whole}
use Rattle.oth_book.proofs.EntryLemmas.{append_same, numeral-injective, entry_line-append, length-bounds_text}

-- a header of version 2, by the byte of its scoring
two_whole : (g : Scoring) (s : ℕ) (bytes : List ℕ) → 9 ≤ length bytes → get_or bytes 0 0 ≡ 79 → get_or bytes 1 0 ≡ 66 → get_or bytes 2 0 ≡ 79 → get_or bytes 3 0 ≡ 79
    → get_or bytes 4 0 ≡ 75 → get_or bytes 5 0 ≡ 50 → get_or bytes 6 0 ≡ 32
    → get_or bytes 7 0 ≡ s → get_or bytes 8 0 ≡ 10 → bytes ≡ 79 ∷ 66 ∷ 79 ∷ 79 ∷ 75 ∷ 50 ∷ 32 ∷ s ∷ 10 ∷ drop 9 bytes
two_whole g s bytes h e0 e1 e2 e3 e4 e5 e6 scoring stop =
    drop-byte 0 1 79 bytes (omega arith) refl e0
    ∙ ap (λ xs. 79 ∷ xs) (drop-byte 1 2 66 bytes (omega arith) refl e1
    ∙ ap (λ xs. 66 ∷ xs) (drop-byte 2 3 79 bytes (omega arith) refl e2
    ∙ ap (λ xs. 79 ∷ xs) (drop-byte 3 4 79 bytes (omega arith) refl e3
    ∙ ap (λ xs. 79 ∷ xs) (drop-byte 4 5 75 bytes (omega arith) refl e4
    ∙ ap (λ xs. 75 ∷ xs) (drop-byte 5 6 50 bytes (omega arith) refl e5
    ∙ ap (λ xs. 50 ∷ xs) (drop-byte 6 7 32 bytes (omega arith) refl e6
    ∙ ap (λ xs. 32 ∷ xs) (drop-byte 7 8 s bytes (omega arith) refl scoring
    ∙ ap (λ xs. s ∷ xs) (drop-byte 8 9 10 bytes (omega arith) refl stop))))))))

length-joined : (a m w x : List ℕ) → length (joined a m w x) ≡ length a + length m + length w + length x + 3
length-joined a m w x =
    let p = length-append a (32 ∷ (m ++ (32 ∷ (w ++ (10 ∷ x))))) in
    let q = length-append m (32 ∷ (w ++ (10 ∷ x))) in
    let r = length-append w (10 ∷ x) in
    omega (arith, p, q, r)

pub header_whole : (v : Version) (bytes : List ℕ) → IsWhole (Header v) bytes → bytes ≡ header v ++ drop (header_len v) bytes
unfolding header
header_whole One bytes whole =
    let h : 7 ≤ length bytes = whole.len in
    drop-byte 0 1 79 bytes (omega arith) refl (eqb-true _ _ (whole.places 0 (lit< tt)))
    ∙ ap (λ xs. 79 ∷ xs) (drop-byte 1 2 66 bytes (omega arith) refl (eqb-true _ _ (whole.places 1 (lit< tt)))
    ∙ ap (λ xs. 66 ∷ xs) (drop-byte 2 3 79 bytes (omega arith) refl (eqb-true _ _ (whole.places 2 (lit< tt)))
    ∙ ap (λ xs. 79 ∷ xs) (drop-byte 3 4 79 bytes (omega arith) refl (eqb-true _ _ (whole.places 3 (lit< tt)))
    ∙ ap (λ xs. 79 ∷ xs) (drop-byte 4 5 75 bytes (omega arith) refl (eqb-true _ _ (whole.places 4 (lit< tt)))
    ∙ ap (λ xs. 75 ∷ xs) (drop-byte 5 6 49 bytes (omega arith) refl (eqb-true _ _ (whole.places 5 (lit< tt)))
    ∙ ap (λ xs. 49 ∷ xs) (drop-byte 6 7 10 bytes (omega arith) refl (eqb-true _ _ (whole.places 6 (lit< tt)))))))))
header_whole (Two Winner) bytes whole = two_whole Winner 87 bytes whole.len
    (eqb-true _ _ (whole.places 0 (lit< tt))) (eqb-true _ _ (whole.places 1 (lit< tt))) (eqb-true _ _ (whole.places 2 (lit< tt))) (eqb-true _ _ (whole.places 3 (lit< tt)))
    (eqb-true _ _ (whole.places 4 (lit< tt))) (eqb-true _ _ (whole.places 5 (lit< tt))) (eqb-true _ _ (whole.places 6 (lit< tt))) (eqb-true _ _ (whole.places 7 (lit< tt)))
    (eqb-true _ _ (whole.places 8 (lit< tt)))
header_whole (Two Discs) bytes whole = two_whole Discs 68 bytes whole.len
    (eqb-true _ _ (whole.places 0 (lit< tt))) (eqb-true _ _ (whole.places 1 (lit< tt))) (eqb-true _ _ (whole.places 2 (lit< tt))) (eqb-true _ _ (whole.places 3 (lit< tt)))
    (eqb-true _ _ (whole.places 4 (lit< tt))) (eqb-true _ _ (whole.places 5 (lit< tt))) (eqb-true _ _ (whole.places 6 (lit< tt))) (eqb-true _ _ (whole.places 7 (lit< tt)))
    (eqb-true _ _ (whole.places 8 (lit< tt)))

pub length-entry_line : (v : Version) (c : Claim) → length (entry_line v c) ≡ 83 + bounds_len v
length-entry_line v c =
    let e : length (entry_line v c) ≡ length (joined (cells c.board) (bounds_text v c.lower c.upper) (numeral 16 16 c.best) []) =
    ap length (sym (append-nil (entry_line v c)) ∙ entry_line-append v c []) in
    let f = length-joined (cells c.board) (bounds_text v c.lower c.upper) (numeral 16 16 c.best) [] in
    sums _ _ _ _ _ (bounds_len v) e f (length-cells c.board) (length-bounds_text v c.lower c.upper) (length-numeral 16 16 c.best)
  where
    sums : (x y a b w n : ℕ) → x ≡ y → y ≡ a + b + w + 0 + 3 → a ≡ 64 → b ≡ n → w ≡ 16 → x ≡ 83 + n
    sums x y a b w n e f g h k = omega arith

-- an entry's line begins with a cell
pub mark_is_cell : (x : Cell) → is_cell (mark x) ≡ true
mark_is_cell Mine = refl
mark_is_cell Theirs = refl
mark_is_cell Empty = refl

cells_begin : (p : Position) (after : List ℕ) → begins is_cell (cells p ++ after) ≡ true
unfolding cells squares
cells_begin p after = mark_is_cell (cell p 0)

pub entry_begins : (v : Version) (rest : List ℕ) (c : Claim) → IsEntryAt v rest c → begins is_cell rest ≡ true
entry_begins v rest c at = ap (begins is_cell) (at.line.1 ∙ entry_line-append v c at.line.0) ∙ cells_begin c.board _

pub end_line-injective : (a b : ℕ) (x y : List ℕ) → a < 10 ^ 6 → b < 10 ^ 6 → end_line a ++ x ≡ end_line b ++ y → (a ≡ b) × (x ≡ y)
end_line-injective a b x y ha hb e =
    let same : 69 ∷ 78 ∷ 68 ∷ 32 ∷ (numeral 10 6 a ++ (10 ∷ x)) ≡ 69 ∷ 78 ∷ 68 ∷ 32 ∷ (numeral 10 6 b ++ (10 ∷ y)) = sym (end_line-append a x) ∙ e ∙ end_line-append b y in
    let tails : numeral 10 6 a ++ (10 ∷ x) ≡ numeral 10 6 b ++ (10 ∷ y) = cc (same) in
    let parts = append_same (numeral 10 6 a) (numeral 10 6 b) _ _ (length-numeral 10 6 a ∙ sym (length-numeral 10 6 b)) tails in
    let rest : x ≡ y = cc (parts.1) in
    (numeral-injective 10 6 a b (lit< tt) (lit≤ tt) ha hb parts.0, rest)

below_trans : (p q r : Position) → IsBelow p q → IsBelow q r → IsBelow p r
unfolding board_cmp
below_trans p q r a b = nat_list_cmp_total.trans (cells p) (cells q) (cells r) a b

slice_get_at : (xs : List Claim) (k : ℕ) (d : Claim) → k < length xs → slice_get xs k ≡ Some (get_or xs k d)
slice_get_at [] k d h = absurd (omega arith)
slice_get_at (x ∷ xs) zero d h = refl
slice_get_at (x ∷ xs) (suc k) d h = slice_get_at xs k d (omega arith)

above_all : (v : Version) (before : List Claim) (c : Claim) → AreClaims v before → IsAboveLast (last_of before) c → (k : ℕ) (d : Claim) → k < length before → IsBelow (get_or before k d).board c.board
above_all v before c claims above k d h =
    let last = above (get_or before (length before - 1) d) (slice_get_at before (length before - 1) d (omega arith)) in
    elim (cases_eq k (length before - 1)) [
      | inl e ↦ rw e last
      | inr ne ↦ below_trans _ _ _ (claims.rising k (length before - 1) d (omega arith) (omega arith)) last
    ]

pub claims_push : (v : Version) (before : List Claim) (rest : List ℕ) (c : Claim) → AreClaims v before → IsNext v (length before) (last_of before) rest c → AreClaims v (before ++ c ∷ [])
claims_push v before rest c claims next = record {
  count = let e = length-append before (c ∷ []) in let h = next.room in omega (arith, e, h);
  each = All-push (IsClaim v) before c claims.each next.entry.claim;
  rising = all_pairs_push (λ c d. IsBelow c.board d.board) before c claims.rising (above_all v before c claims next.above);
}

pub entry_rest : (v : Version) (rest : List ℕ) (c : Claim) → IsEntryAt v rest c → (83 + bounds_len v ≤ length rest) × (rest ≡ entry_line v c ++ drop (83 + bounds_len v) rest)
entry_rest v rest c at =
    let after = at.line.0 in
    let whole = at.line.1 in
    let len = length-entry_line v c in
    let e = ap length whole ∙ length-append (entry_line v c) after in
    let left : drop (83 + bounds_len v) rest ≡ after = ap (drop (83 + bounds_len v)) whole ∙ ap (λ n. drop n (entry_line v c ++ after)) (sym len) ∙ drop-append_seam (entry_line v c) after in
    (enough _ _ _ _ e len, whole ∙ ap (λ xs. entry_line v c ++ xs) (sym left))
  where
    enough : (x y z n : ℕ) → x ≡ y + z → y ≡ n → n ≤ x
    enough x y z n e f = omega arith

lines_push : (v : Version) (before : List Claim) (c : Claim) (rest : List ℕ) → lines v before ++ (entry_line v c ++ rest) ≡ lines v (before ++ c ∷ []) ++ rest
lines_push v before c rest =
    sym (append_assoc (lines v before) (entry_line v c) rest)
    ∙ ap (λ xs. xs ++ rest) (ap (λ xs. lines v before ++ xs) (sym (append-nil (entry_line v c))) ∙ sym (flat_map-append (entry_line v) before (c ∷ [])))

pub begins_push : (v : Version) (before : List Claim) (rest bytes : List ℕ) (c : Claim) → Begins v before rest bytes → IsNext v (length before) (last_of before) rest c
    → Begins v (before ++ c ∷ []) (drop (83 + bounds_len v) rest) bytes
begins_push v before rest bytes c begin next = record {
  entries = claims_push v before rest c begin.entries next;
  front = begin.front ∙ ap (λ xs. header v ++ xs) (ap (λ xs. lines v before ++ xs) (entry_rest v rest c next.entry).1 ∙ lines_push v before c (drop (83 + bounds_len v) rest));
}

pub none_before : (v : Version) (bytes : List ℕ) → fit_of (Header v) bytes ≡ Whole → Begins v [] (drop (header_len v) bytes) bytes
none_before v bytes fits = record {
  entries = record { count = omega arith; each = λ k c h. absurd (omega arith); rising = λ i j c h k. absurd (omega arith) };
  front = header_whole v bytes (is_whole (Header v) bytes fits);
}

pub header_long : (v : Version) (bytes : List ℕ) → fit_of (Header v) bytes ≡ Whole → header_len v ≤ length bytes
header_long v bytes fits = (is_whole (Header v) bytes fits).len

-- ---- a place: a number of entries, and the last of them

slice_get_end : (xs : List Claim) (c : Claim) → slice_get (xs ++ c ∷ []) (length xs) ≡ Some c
slice_get_end [] c = refl
slice_get_end (x ∷ xs) c = slice_get_end xs c

pub length_push : (before : List Claim) (c : Claim) (count : ℕ) → count ≡ length before → count + 1 ≡ length (before ++ c ∷ [])
length_push before c count e = let n = length-append before (c ∷ []) in omega (arith, n, e)

pub last_push : (before : List Claim) (c : Claim) → Some c ≡ last_of (before ++ c ∷ [])
last_push before c =
    let n = length-append before (c ∷ []) in
    let e : length (before ++ c ∷ []) - 1 ≡ length before = omega (arith, n) in
    sym (ap (slice_get (before ++ c ∷ [])) e ∙ slice_get_end before c)

pub next_here : (v : Version) (before : List Claim) (count : ℕ) (last : Option Claim) (rest : List ℕ) (c : Claim) → count ≡ length before → last ≡ last_of before → IsNext v count last rest c
    → IsNext v (length before) (last_of before) rest c
next_here v before count last rest c e l next = record {
  room = let h = next.room in omega (arith, e, h);
  entry = next.entry;
  above = λ d is. next.above d (l ∙ is);
}

pub fault_here : (v : Version) (before : List Claim) (count : ℕ) (last : Option Claim) (rest : List ℕ) (f : BookFault) → count ≡ length before → last ≡ last_of before → IsLineFault v count last rest f
    → IsLineFault v (length before) (last_of before) rest f
fault_here v before count last rest f e l fault =
    subst (λ d. IsLineFault v (length before) d rest f) l (subst (λ n. IsLineFault v n last rest f) e fault)
