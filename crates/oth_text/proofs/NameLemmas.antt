-- The names of squares on a line, one after another.
use Rattle.std.proofs.Common.{◌≡◌, ◌≢◌, ◌+◌, ◌*◌, ◌≤◌, ℕ, List, [], ◌∷◌, ◌++◌, length, Bool, true, false, not, cond, if◌then◌else◌, arith, sym, refl, ap, ◌∙◌, append_assoc, append-nil}
use Rattle.std.proofs.lemmas.List.{length-append}
use Rattle.std.proofs.lemmas.List.Filters.{length-filter_both}
use Rattle.std.proofs.lemmas.Bool.{false≢true}
use Rattle.oth_rules.specs.Square.{has, squares}
use Rattle.oth_search.specs.Bounds.Squares.{In, Without}
use Rattle.oth_search.proofs.OrderingLemmas.Orders.{squares-first, squares-none}
use Rattle.oth_text.specs.Report.{names, square_name, squares_of}

abbrev pub is_nil : List ℕ → Bool
is_nil [] = true
is_nil (x ∷ xs) = false

-- the line is what stood there and the names of the first squares of the word, behind which come those that are left
pub record AreNames (before line : List ℕ) (word rest : ℕ) (is_first : Bool) : Type 0 where
  pub named : List ℕ
  pub text : line ≡ before ++ names named
  pub first : is_first ≡ is_nil named
  pub all : named ++ squares_of rest ≡ squares_of word
  pub len : length line + 1 ≤ length before + 3 * length named + (if is_first then 1 else 0)

pub names_more : (xs : List ℕ) (n : ℕ) → names (xs ++ n ∷ []) ≡ names xs ++ cond (is_nil xs) (square_name n) (32 ∷ square_name n)
names_more [] n = refl
names_more (x ∷ []) n = refl
names_more (x ∷ y ∷ xs) n = ap (λ t. square_name x ++ (32 ∷ t)) (names_more (y ∷ xs) n)

is_nil_push : (xs : List ℕ) (n : ℕ) → is_nil (xs ++ n ∷ []) ≡ false
is_nil_push [] n = refl
is_nil_push (x ∷ xs) n = refl

-- the least square of a set comes first
least_first : (set square rest : ℕ) → In set square → Without set square rest → ((s : ℕ) → In set s → square ≤ s) → squares_of set ≡ square ∷ squares_of rest
unfolding squares_of
least_first set square rest h w least = squares-first set square rest h w least

none_left : (set : ℕ) → set ≡ 0 → squares_of set ≡ []
unfolding squares_of
none_left set e = squares-none set e

-- a word has at most 64 squares
few_squares : (word : ℕ) → length (squares_of word) ≤ 64
unfolding squares_of squares
few_squares word =
    let most = length-filter_both (has word) (λ s. not (has word s)) (λ s. refl) squares in
    omega (arith, most)

-- nothing was written yet
pub names_none : (before : List ℕ) (word : ℕ) → AreNames before before word word true
names_none before word = record { named = []; text = sym (append-nil before); first = refl; all = refl; len = omega arith }

-- two bytes more, and three where it isn't the first
length_push_name : (b : Bool) (line : List ℕ) (before n square : ℕ) → length line + 1 ≤ before + 3 * n + (if b then 1 else 0)
    → length (line ++ cond b (square_name square) (32 ∷ square_name square)) + 1 ≤ before + 3 * (n + 1) + 0
length_push_name true line before n square h = simp length-append (omega arith)
length_push_name false line before n square h = simp length-append (omega arith)

-- the least square that is left
pub names_push : (before line : List ℕ) (word set square rest : ℕ) (is_first : Bool) → AreNames before line word set is_first
    → In set square → Without set square rest → ((s : ℕ) → In set s → square ≤ s)
    → AreNames before (line ++ cond is_first (square_name square) (32 ∷ square_name square)) word rest false
names_push before line word set square rest is_first so_far h w least =
    let named = so_far.named in
    let longer = length_push_name is_first line (length before) (length named) square so_far.len in
    record {
      named = named ++ square ∷ [];
      text = ap (λ xs. xs ++ cond is_first (square_name square) (32 ∷ square_name square)) so_far.text
          ∙ append_assoc before (names named) _
          ∙ ap (λ b. before ++ (names named ++ cond b (square_name square) (32 ∷ square_name square))) so_far.first
          ∙ ap (λ xs. before ++ xs) (sym (names_more named square));
      first = sym (is_nil_push named square);
      all = append_assoc named (square ∷ []) (squares_of rest) ∙ ap (λ xs. named ++ xs) (sym (least_first set square rest h w least)) ∙ so_far.all;
      len = omega (arith, longer, length-append named (square ∷ []));
    }

-- there is room for one more
room_for_name : (b : Bool) (line before n : ℕ) → line + 1 ≤ before + 3 * n + (if b then 1 else 0) → (b ≡ true → n ≡ 0) → n + 1 ≤ 64 → line + (if b then 2 else 3) ≤ before + 191
room_for_name true line before n h none few = omega (arith, none refl)
room_for_name false line before n h none few = omega arith

no_names : (b : Bool) (xs : List ℕ) → b ≡ is_nil xs → b ≡ true → length xs ≡ 0
no_names b [] e is = refl
no_names b (x ∷ xs) e is = absurd (false≢true (sym e ∙ is))

pub names_room : (before line : List ℕ) (word set square rest : ℕ) (is_first : Bool) → AreNames before line word set is_first
    → In set square → Without set square rest → ((s : ℕ) → In set s → square ≤ s)
    → length line + (if is_first then 2 else 3) ≤ length before + 191
names_room before line word set square rest is_first so_far h w least =
    let total = ap length so_far.all in
    let parts = length-append so_far.named (squares_of set) in
    let next = ap length (least_first set square rest h w least) in
    room_for_name is_first (length line) (length before) (length so_far.named) so_far.len (no_names is_first so_far.named so_far.first)
    (omega (arith, total, parts, next, few_squares word))

-- all squares
pub names_all : (before line : List ℕ) (word rest : ℕ) (is_first : Bool) → AreNames before line word rest is_first → rest ≡ 0 → line ≡ before ++ names (squares_of word)
names_all before line word rest is_first so_far none =
    so_far.text ∙ ap (λ xs. before ++ names xs) (sym (append-nil so_far.named) ∙ ap (λ xs. so_far.named ++ xs) (sym (none_left rest none)) ∙ so_far.all)
