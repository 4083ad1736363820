-- What a writer has of a text, line by line.
use Rattle.std.proofs.Common.{◌≡◌, ℕ, ◌+◌, ◌<◌, ◌≤◌, List, [], ◌∷◌, ◌++◌, Option, length, take, drop, get_or, arith, sym, ap, ◌∙◌}
use Rattle.std.proofs.Common.{refl, append_assoc, append-nil, ◌^◌, ℤ, ◌≤ℤ◌, ◌<ℤ◌, ◌⊎◌, inl, inr, pos, negsuc}
use Rattle.std.specs.Prelude.{Result, Ok, Err, OnErr}
use Rattle.std.specs.Io.KnownBytes.{Appends}
use Rattle.std.proofs.KnownBytes.{Appends-trans}
use Rattle.std.proofs.lemmas.List.{take_more, take-append-drop, take_all}
use Rattle.std.proofs.lemmas.Grind.{flat_map-append}
use Rattle.std.proofs.lemmas.Bool.{cases_lt}
use Rattle.std.proofs.lemmas.Int.{ints}
use Rattle.oth_device.specs.Device.{AppendsBeginning}
use Rattle.oth_rules.specs.Position.{Position}
use Rattle.oth_rules.specs.declared.scoring.Scoring.{Scoring}
use Rattle.oth_book.specs.declared.version.Version.{Version}
use Rattle.oth_book.specs.declared.version.Version.TheVariants.{Two}
use Rattle.oth_book.specs.declared.claim.Claim.{Claim}
use Rattle.oth_book.specs.Order.{cells, cell_byte}
use Rattle.oth_book.specs.Shape.{header}
use Rattle.oth_book.specs.Numeral.{numeral}
use Rattle.oth_book.specs.Text.{book_text, entry_line, end_line, lines, signed, bounds_text, AreClaims}
use Rattle.oth_book.specs.Contents.{Contents, IsText, written}
use Rattle.oth_book.specs.Book.{IsTrueBook, IsBookEntry}
use Rattle.oth_book.proofs.BookLemmas.{best_word-fits}
use Rattle.oth_book.proofs.CellLemmas.{length-cells, get_or-cells}

pub cells_more : (p : Position) (s : ℕ) (line : List ℕ) → s < 64 → line ≡ take s (cells p) → line ++ cell_byte p s ∷ [] ≡ take (s + 1) (cells p)
cells_more p s line h so_far =
    ap (λ xs. xs ++ cell_byte p s ∷ []) so_far ∙ ap (λ b. take s (cells p) ++ b ∷ []) (sym (get_or-cells p s h)) ∙ sym (take_more (cells p) s 0 (omega (arith, length-cells p)))

pub cells_all : (p : Position) (s : ℕ) (line : List ℕ) → 64 ≤ s → line ≡ take s (cells p) → line ≡ cells p
cells_all p s line h so_far = so_far ∙ take_all s (cells p) (omega (arith, length-cells p))

pub beginning_after : (a b c : Option (List ℕ)) (done line rest text : List ℕ) → Appends a b done → AppendsBeginning b c line → text ≡ done ++ (line ++ rest) → AppendsBeginning a c text
beginning_after a b c done line rest text before more whole =
    let front = more.0 in
    let others = more.2.0 in (
      done ++ front,
      Appends-trans a b c done front before more.1,
      (
        others ++ rest,
        whole ∙ ap (λ xs. done ++ (xs ++ rest)) more.2.1 ∙ ap (λ xs. done ++ xs) (append_assoc front others rest) ∙ sym (append_assoc done front (others ++ rest)),
      ),
    )

pub beginning_longer : (a c : Option (List ℕ)) (line rest text : List ℕ) → AppendsBeginning a c line → text ≡ line ++ rest → AppendsBeginning a c text
beginning_longer a c line rest text more whole =
    let front = more.0 in
    let others = more.2.0 in
    (front, more.1, (others ++ rest, whole ∙ ap (λ xs. xs ++ rest) more.2.1 ∙ append_assoc front others rest))

-- the lines up to entry i and the next one
pub lines_more : (v : Version) (entries : List Claim) (i : ℕ) (e : Claim) → i < length entries → e ≡ get_or entries i e
    → (header v ++ lines v (take i entries)) ++ entry_line v e ≡ header v ++ lines v (take (i + 1) entries)
lines_more v entries i e h is =
    append_assoc (header v) (lines v (take i entries)) (entry_line v e)
    ∙ ap (λ xs. header v ++ xs) (ap (λ xs. lines v (take i entries) ++ xs) (sym (append-nil (entry_line v e))) ∙ sym (flat_map-append (entry_line v) (take i entries) (e ∷ []))
    ∙ ap (λ x. lines v (take i entries ++ x ∷ [])) is ∙ ap (lines v) (sym (take_more entries i e h)))

lines_split : (v : Version) (entries : List Claim) (i : ℕ) → lines v entries ≡ lines v (take i entries) ++ lines v (drop i entries)
lines_split v entries i = ap (lines v) (sym (take-append-drop i entries)) ∙ flat_map-append (entry_line v) (take i entries) (drop i entries)

-- the text from line i on
pub text_from : (v : Version) (entries : List Claim) (i : ℕ) (e : Claim) → i < length entries → e ≡ get_or entries i e
    → (rest : List ℕ) × (book_text v entries ≡ (header v ++ lines v (take i entries)) ++ (entry_line v e ++ rest))
text_from v entries i e h is =
    let rest = lines v (drop (i + 1) entries) ++ end_line (length entries) in (
      rest,
      ap (λ xs. header v ++ (xs ++ end_line (length entries))) (lines_split v entries (i + 1))
          ∙ ap (λ xs. header v ++ xs) (append_assoc (lines v (take (i + 1) entries)) (lines v (drop (i + 1) entries)) _)
          ∙ sym (append_assoc (header v) (lines v (take (i + 1) entries)) rest)
          ∙ ap (λ xs. xs ++ rest) (sym (lines_more v entries i e h is))
          ∙ append_assoc (header v ++ lines v (take i entries)) (entry_line v e) rest,
    )

-- all lines, and the end
pub text_end : (v : Version) (entries : List Claim) (i : ℕ) → length entries ≤ i → book_text v entries ≡ (header v ++ lines v (take i entries)) ++ end_line (length entries)
text_end v entries i h =
    ap (λ xs. header v ++ (lines v xs ++ end_line (length entries))) (sym (take_all i entries h))
    ∙ sym (append_assoc (header v) (lines v (take i entries)) (end_line (length entries)))

-- what holds anyway
pub on_err : {T E : Type 0} (r : Result T E) (P : Type 0) → P → OnErr r P
on_err (Ok x) P h = tt
on_err (Err e) P h = h

-- a line of version 2, part by part
pub line_parts : (g : Scoring) (c : Claim) (items : List ℕ)
    → items ≡ (((((((cells c.board ++ 32 ∷ []) ++ signed c.lower) ++ 32 ∷ []) ++ signed c.upper) ++ 32 ∷ []) ++ numeral 16 16 c.best) ++ 10 ∷ []) → items ≡ entry_line (Two g) c
unfolding entry_line bounds_text
line_parts g c items e = e ∙ simp append_assoc

-- the entries of a true book are those of a text
pub true_claims : (book : Contents) → IsTrueBook book → AreClaims (Two book.scoring) book.entries
true_claims book holds = record {
  count = holds.count;
  each = λ k d h. let entry = holds.each k d h in record {
    board = entry.board;
    canonical = entry.canonical;
    bounds = record { interval = entry.interval; said = tt };
    best = fits book.scoring (get_or book.entries k d) entry;
    undecided = entry.undecided;
  };
  rising = holds.rising;
}
  where
    below_or_same : (a b : ℤ) → a ≤ℤ b → (a <ℤ b) ⊎ (a ≡ b)
    below_or_same (pos m) (pos n) h = elim (cases_lt m n) [ inl l ↦ inl (omega (arith, ints, l)) | inr l ↦ inr (omega (arith, ints, h, l)) ]
    below_or_same (pos m) (negsuc n) h = absurd (omega (arith, ints, h))
    below_or_same (negsuc m) (pos n) h = inl (omega (arith, ints))
    below_or_same (negsuc m) (negsuc n) h = elim (cases_lt n m) [ inl l ↦ inl (omega (arith, ints, l)) | inr l ↦ inr (omega (arith, ints, h, l)) ]

    fits : (g : Scoring) (c : Claim) → IsBookEntry g c → c.best < 2 ^ 64
    fits g c entry = elim (below_or_same c.lower c.upper entry.interval.ordered) [
      | inl open_bounds ↦ let none = entry.undecided open_bounds in omega (arith, none)
      | inr exact ↦ let is = entry.holds.best exact in let b = best_word-fits g c.board in rw is b
    ]

pub reads_back : (book : Contents) → IsTrueBook book → IsText book (written book)
reads_back book holds = record { version = Two book.scoring; scoring = refl; text = record { entries = true_claims book holds; text = refl } }
