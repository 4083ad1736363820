-- What a line that is allowed by place has in its parts.
use Rattle.std.proofs.Common.{◌≡◌, ℕ, suc, ◌+◌, ◌-◌, ◌<◌, ◌≤◌, true, List, ◌∷◌, ◌++◌, length, take, drop, get_or, arith, sym}
use Rattle.std.proofs.Common.{ap, ◌∙◌, refl, append_assoc, drop-cons, length-drop, add-one, lit<, eqb-true}
use Rattle.std.proofs.lemmas.List.{take-append-drop, length-take-le, drop-drop, get_or-take, get_or-drop}
use Rattle.std.proofs.lemmas.Bool.Decides.{nat_tests}
use Rattle.oth_book.specs.declared.text.shape.Shape.TheVariants.{Entry, End}
use Rattle.oth_book.specs.declared.version.Version.{Version}
use Rattle.oth_book.specs.Shape.{allows, allows_in_entry, allows_in_bounds, bounds_len, is_cell, is_digit, is_hex_digit, IsWhole, AreBoundsBytes}
use Rattle.oth_book.specs.Order.{cells}
use Rattle.oth_book.specs.Numeral.{numeral, IsDigit}
use Rattle.oth_book.specs.Text.{end_line}

is_decimal : (b : ℕ) → is_digit b ≡ true → IsDigit 10 b
is_decimal b h = record { value = grind (arith, nat_tests); byte = grind (arith, nat_tests) }

is_hexadecimal : (b : ℕ) → is_hex_digit b ≡ true → IsDigit 16 b
is_hexadecimal b h = record { value = grind (arith, nat_tests); byte = grind (arith, nat_tests) }

entry_cell : (n i b : ℕ) → i < 64 → allows_in_entry n i b ≡ true → is_cell b ≡ true
entry_cell n i b h a = grind (arith, nat_tests)

entry_bound : (n i b : ℕ) → 65 ≤ i → i < 65 + n → allows_in_entry n i b ≡ allows_in_bounds (i - 65) b
entry_bound n i b h k = grind (arith, nat_tests)

entry_gap : (n b : ℕ) → allows_in_entry n (65 + n) b ≡ true → b ≡ 32
entry_gap n b a = grind (arith, nat_tests)

entry_hex : (n i b : ℕ) → 66 + n ≤ i → i < 82 + n → allows_in_entry n i b ≡ true → is_hex_digit b ≡ true
entry_hex n i b h k a = grind (arith, nat_tests)

entry_stop : (n b : ℕ) → allows_in_entry n (82 + n) b ≡ true → b ≡ 10
entry_stop n b a = grind (arith, nat_tests)

end_digit : (i b : ℕ) → 4 ≤ i → i < 10 → allows End i b ≡ true → is_digit b ≡ true
end_digit i b h k a = grind (arith, nat_tests)

-- ---- the parts of a line

-- a part of n bytes, from place a on
abbrev pub part : ℕ → ℕ → List ℕ → List ℕ
part a n bytes = take n (drop a bytes)

pub length-part : (a n : ℕ) (bytes : List ℕ) → a + n ≤ length bytes → length (part a n bytes) ≡ n
length-part a n bytes h = length-take-le n (drop a bytes) (simp length-drop (omega arith))

pub get_or-part : (a n : ℕ) (bytes : List ℕ) (i : ℕ) → i < n → get_or (part a n bytes) i 0 ≡ get_or bytes (a + i) 0
get_or-part a n bytes i h = get_or-take n (drop a bytes) i 0 h ∙ get_or-drop a bytes i 0

pub drop-part : (a n b : ℕ) (bytes : List ℕ) → a + n ≡ b → drop a bytes ≡ part a n bytes ++ drop b bytes
drop-part a n b bytes e = sym (take-append-drop n (drop a bytes)) ∙ ap (λ xs. part a n bytes ++ xs) (drop-drop n a bytes ∙ ap (λ k. drop k bytes) e)

pub drop-byte : (a b x : ℕ) (bytes : List ℕ) → a < length bytes → a + 1 ≡ b → get_or bytes a 0 ≡ x → drop a bytes ≡ x ∷ drop b bytes
drop-byte a b x bytes h e is = drop-cons bytes a 0 h ∙ ap (λ y. y ∷ drop (suc a) bytes) is ∙ ap (λ k. x ∷ drop k bytes) (sym (add-one a) ∙ e)

-- an entry line with these parts, and what follows
abbrev pub joined : List ℕ → List ℕ → List ℕ → List ℕ → List ℕ
joined cells bounds best after = cells ++ (32 ∷ (bounds ++ (32 ∷ (best ++ (10 ∷ after)))))

pub joined_same : {a b : List ℕ} {m n : List ℕ} {w v : List ℕ} (after : List ℕ) → a ≡ b → m ≡ n → w ≡ v → joined a m w after ≡ joined b n v after
joined_same {a} {b} {m} {n} {w} {v} after e g h =
    ap (λ x. joined x m w after) e ∙ ap (λ x. joined b x w after) g ∙ ap (λ x. joined b n x after) h

-- a line of an entry by place, whose bounds take n bytes
pub record IsEntryBytes (n : ℕ) (bytes : List ℕ) : Type 0 where
  pub len : 83 + n ≤ length bytes
  pub places : (i : ℕ) → i < 83 + n → allows_in_entry n i (get_or bytes i 0) ≡ true

pub entry_bytes : (v : Version) (bytes : List ℕ) → IsWhole (Entry v) bytes → IsEntryBytes (bounds_len v) bytes
entry_bytes v bytes whole = record { len = whole.len; places = whole.places }

pub entry_parts : (n : ℕ) (bytes : List ℕ) → IsEntryBytes n bytes → bytes ≡ joined (part 0 64 bytes) (part 65 n bytes) (part (66 + n) 16 bytes) (drop (83 + n) bytes)
entry_parts n bytes whole =
    let h = whole.len in
    drop-part 0 64 64 bytes refl
    ∙ ap (λ xs. part 0 64 bytes ++ xs) (drop-byte 64 65 32 bytes (omega arith) refl (eqb-true _ _ (whole.places 64 (omega arith)))
    ∙ ap (λ xs. 32 ∷ xs) (drop-part 65 n (65 + n) bytes refl
    ∙ ap (λ xs. part 65 n bytes ++ xs) (drop-byte (65 + n) (66 + n) 32 bytes (omega arith) (omega arith) (entry_gap n _ (whole.places (65 + n) (omega arith)))
    ∙ ap (λ xs. 32 ∷ xs) (drop-part (66 + n) 16 (82 + n) bytes (omega arith)
    ∙ ap (λ xs. part (66 + n) 16 bytes ++ xs) (drop-byte (82 + n) (83 + n) 10 bytes (omega arith) (omega arith) (entry_stop n _ (whole.places (82 + n) (omega arith))))))))

pub entry_cells : (n : ℕ) (bytes : List ℕ) → IsEntryBytes n bytes → (i : ℕ) → i < length (part 0 64 bytes) → is_cell (get_or (part 0 64 bytes) i 0) ≡ true
entry_cells n bytes whole i h =
    let len = whole.len in
    let within : i < 64 = omega (arith, length-part 0 64 bytes (omega arith)) in
    ap is_cell (get_or-part 0 64 bytes i within) ∙ entry_cell n (0 + i) (get_or bytes (0 + i) 0) (omega arith) (whole.places (0 + i) (omega arith))

pub entry_bounds : (v : Version) (bytes : List ℕ) → IsEntryBytes (bounds_len v) bytes → AreBoundsBytes v (part 65 (bounds_len v) bytes)
entry_bounds v bytes whole = record {
  len = length-part 65 (bounds_len v) bytes (enough (bounds_len v) (length bytes) whole.len);
  places = λ i h. ap (allows_in_bounds i) (get_or-part 65 (bounds_len v) bytes i h) ∙ at (bounds_len v) bytes i whole h;
}
  where
    enough : (n len : ℕ) → 83 + n ≤ len → 65 + n ≤ len
    enough n len h = omega arith

    at : (n : ℕ) (bytes : List ℕ) (i : ℕ) → IsEntryBytes n bytes → i < n → allows_in_bounds i (get_or bytes (65 + i) 0) ≡ true
    at n bytes i whole h =
        let back : i ≡ 65 + i - 65 = omega arith in
        ap (λ k. allows_in_bounds k (get_or bytes (65 + i) 0)) back ∙ sym (entry_bound n (65 + i) (get_or bytes (65 + i) 0) (omega arith) (omega arith)) ∙ whole.places (65 + i) (omega arith)

pub entry_best : (n : ℕ) (bytes : List ℕ) → IsEntryBytes n bytes → (i : ℕ) → i < length (part (66 + n) 16 bytes) → IsDigit 16 (get_or (part (66 + n) 16 bytes) i 0)
entry_best n bytes whole i h =
    let len = whole.len in
    let within : i < 16 = omega (arith, length-part (66 + n) 16 bytes (omega arith)) in
    is_hexadecimal (get_or (part (66 + n) 16 bytes) i 0)
    (ap is_hex_digit (get_or-part (66 + n) 16 bytes i within)
    ∙ entry_hex n (66 + n + i) (get_or bytes (66 + n + i) 0) (omega arith) (omega arith) (whole.places (66 + n + i) (omega arith)))

pub end_number : (bytes : List ℕ) → IsWhole End bytes → (i : ℕ) → i < length (part 4 6 bytes) → IsDigit 10 (get_or (part 4 6 bytes) i 0)
end_number bytes whole i h =
    let within : i < 6 = omega (arith, length-part 4 6 bytes (omega (arith, whole.len))) in
    is_decimal _ (ap is_digit (get_or-part 4 6 bytes i within) ∙ end_digit (4 + i) (get_or bytes (4 + i) 0) (omega arith) (omega arith) (whole.places (4 + i) (omega arith)))

pub end_parts : (bytes : List ℕ) → IsWhole End bytes → bytes ≡ 69 ∷ 78 ∷ 68 ∷ 32 ∷ (part 4 6 bytes ++ (10 ∷ drop 11 bytes))
end_parts bytes whole =
    let h : 11 ≤ length bytes = whole.len in
    drop-byte 0 1 69 bytes (omega arith) refl (eqb-true _ _ (whole.places 0 (lit< tt)))
    ∙ ap (λ xs. 69 ∷ xs) (drop-byte 1 2 78 bytes (omega arith) refl (eqb-true _ _ (whole.places 1 (lit< tt)))
    ∙ ap (λ xs. 78 ∷ xs) (drop-byte 2 3 68 bytes (omega arith) refl (eqb-true _ _ (whole.places 2 (lit< tt)))
    ∙ ap (λ xs. 68 ∷ xs) (drop-byte 3 4 32 bytes (omega arith) refl (eqb-true _ _ (whole.places 3 (lit< tt)))
    ∙ ap (λ xs. 32 ∷ xs) (drop-part 4 6 10 bytes refl
    ∙ ap (λ xs. part 4 6 bytes ++ xs) (drop-byte 10 11 10 bytes (omega arith) refl (eqb-true _ _ (whole.places 10 (lit< tt))))))))

pub end_line-append : (n : ℕ) (after : List ℕ) → end_line n ++ after ≡ 69 ∷ 78 ∷ 68 ∷ 32 ∷ (numeral 10 6 n ++ (10 ∷ after))
unfolding end_line
end_line-append n after = simp append_assoc
