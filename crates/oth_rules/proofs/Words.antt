-- What the code computes over whole words, as sets of squares of a position.
use Rattle.std.proofs.Common.{take_all, ◌≡◌, ℕ, zero, suc, ◌+◌, ◌-◌, ◌<◌, ◌≤◌, ◌^◌, Bool, true, false, not, eqb, ◌&&◌, ◌||◌, List}
use Rattle.std.proofs.Common.{[], ◌∷◌, take, get_or, length, refl, sym, ap, ◌∙◌, subst, inl, inr, arith, w64}
use Rattle.std.specs.Prelude.{◌↔◌, bit_and, bit_or, ◌==◌, if◌then◌else◌}
use Rattle.std.specs.List.{list_any}
use Rattle.std.specs.Int.{bit_at, trailing_zeros}
use Rattle.std.proofs.lemmas.Bool.{cases_Bool, false≢true, eq-eqb, eqb-true, ne_eqb, cases_eq, and_parts, false_from_ne_true}
use Rattle.std.proofs.lemmas.Nat.{and_le_r, and_le_l, or_lt, and_comm, pow_below}
use Rattle.std.proofs.lemmas.Nat.Bits.{bit_at-trailing_zeros}
use Rattle.std.proofs.lemmas.List.Folds.{list_any_more}
use Rattle.oth_rules.specs.Square.{Direction, has, word_of, next, is_in, squares, directions}
use Rattle.oth_rules.specs.Position.{Position, IsBoard, is_mine, is_theirs, is_empty, pass, opposite_cell, Mine, cell}
use Rattle.oth_rules.specs.Move.{flipped_along, is_flipped, is_legal, can_move, is_over, after}
use Rattle.oth_rules.specs.declared.direction.Compass.{Compass}
use Rattle.oth_rules.specs.declared.direction.Compass.TheVariants.{North, NorthEast, East, SouthEast, South, SouthWest, West, NorthWest}
use Rattle.oth_rules.specs.Line.{direction_of, reversed, is_next, is_on_line, outflanks}
use Rattle.oth_rules.proofs.Bits.{has-and, has-or, has-not, has-zero, has-pow, has-word_of, word_of-lt, is_word_of, word_of-same, same_word}
use Rattle.oth_rules.proofs.Lines.{next_lt, some_in_same, is_next-same, and_turn}
use Rattle.oth_rules.proofs.Rays.{same_bool, front_of, into, line-is, flipped_along-reached, flipped_along-unreached}
use Rattle.oth_rules.proofs.Legal.{outflanks-line, legal-is, any_square, any_picks_square}
use Rattle.oth_rules.proofs.Positions.{is_mine-has, is_theirs-has, is_empty-has, after-words, after-is, position_of-IsBoard}

pub empty_word : (p : Position) → IsBoard p → 2 ^ 64 - 1 - bit_or p.own p.opp ≡ word_of (is_empty p)
empty_word p b =
    is_word_of (2 ^ 64 - 1 - bit_or p.own p.opp) (is_empty p) (omega arith)
    (λ s l. has-not (bit_or p.own p.opp) s (or_lt 64 p.own p.opp b.own_fits b.opp_fits) l ∙ ap not (has-or p.own p.opp s) ∙ sym (is_empty-has p s))

pub swapped : (p : Position) → IsBoard p → IsBoard (record { own = p.opp; opp = p.own })
swapped p b = record { own_fits = b.opp_fits; opp_fits = b.own_fits; apart = and_comm p.opp p.own ∙ b.apart }

pub is_on_line-same : (n : ℕ) (d : Direction) (f f' g g' : ℕ → Bool) → ((s : ℕ) → s < 64 → f s ≡ f' s) → ((s : ℕ) → s < 64 → g s ≡ g' s) → (t : ℕ) → t < 64
    → is_on_line n d f g t ≡ is_on_line n d f' g' t
unfolding is_on_line
is_on_line-same zero d f f' g g' h k t l = refl
is_on_line-same (suc n) d f f' g g' h k t l =
    ap (λ b. b && is_next d (λ s. f s || is_on_line n d f g s) t) (k t l)
    ∙ ap (λ b. g' t && b)
    (is_next-same d (λ s. f s || is_on_line n d f g s) (λ s. f' s || is_on_line n d f' g' s) t l
    (λ s m. ap (λ b. b || is_on_line n d f g s) (h s m) ∙ ap (λ b. f' s || b) (is_on_line-same n d f f' g g' h k s m)))

pub outflanking_word : (p : Position) (d back : Direction) (line moved : ℕ) → IsBoard p → back ≡ reversed d →
    line ≡ word_of (is_on_line 6 back (has p.own) (has p.opp)) → moved ≡ word_of (is_next back (has line)) → moved ≡ word_of (λ s. outflanks p s d)
outflanking_word p d back line moved b e l m =
    m ∙ word_of-same (is_next back (has line)) (λ s. outflanks p s d)
    (λ s k. is_next-same back (has line) (is_on_line 6 back (is_mine p) (is_theirs p)) s k
    (λ u j. ap (λ w. has w u) l ∙ has-word_of (is_on_line 6 back (has p.own) (has p.opp)) u j
    ∙ is_on_line-same 6 back (has p.own) (is_mine p) (has p.opp) (is_theirs p) (λ v _. sym (is_mine-has p v)) (λ v _. sym (is_theirs-has p b v)) u j)
    ∙ ap (λ r. is_next r (is_on_line 6 r (is_mine p) (is_theirs p)) s) e
    ∙ outflanks-line p s d)

in_nothing : (q : ℕ) → is_in [] q ≡ false
unfolding is_in
in_nothing q = refl

pub word_fits : (w : ℕ) (f : ℕ → Bool) → w ≡ word_of f → w < 2 ^ 64
word_fits w f e = omega (arith, e, word_of-lt f)

-- a word that isn't 0 has a square
pub some_square : (w : ℕ) → 0 < w → w < 2 ^ 64 → (t : ℕ) × (t < 64) × (has w t ≡ true)
unfolding has
some_square w h l =
    let k = bit_at-trailing_zeros w64 w h l in
    (trailing_zeros w64 w, k.0, eq-eqb (bit_at w (trailing_zeros w64 w)) 1 k.1)

-- a set has no square where its word is 0
pub no_square : (set : ℕ → Bool) → word_of set ≡ 0 → list_any set squares ≡ false
no_square set e =
    elim (cases_Bool (list_any set squares)) [
      | inl t ↦ let k = any_picks_square set t in
          absurd (false≢true (sym (sym (has-word_of set k.0 k.1) ∙ ap (λ w. has w k.0) e ∙ has-zero k.0) ∙ k.2))
      | inr f ↦ f
    ]

pub some_squares : (set : ℕ → Bool) → 0 < word_of set → list_any set squares ≡ true
some_squares set h =
    let k = some_square (word_of set) h (word_of-lt set) in
    any_square set k.0 k.1 (sym (has-word_of set k.0 k.1) ∙ k.2)

-- ---- what is outflanked along one direction

module _ (p : Position) (s : ℕ) (d : Direction) (bit line moved : ℕ) (b : IsBoard p) (ls : s < 64) (bit_is : bit ≡ 2 ^ s)
    (line_is : line ≡ word_of (is_on_line 6 d (has bit) (has p.opp))) (moved_is : moved ≡ word_of (is_next d (has line))) where
  line_front : (u : ℕ) → u < 64 → has line u ≡ is_in (front_of 6 d p (next d s)) u
  line_front u l =
      ap (λ w. has w u) line_is ∙ has-word_of (is_on_line 6 d (has bit) (has p.opp)) u l
      ∙ is_on_line-same 6 d (has bit) (λ v. s == v) (has p.opp) (is_theirs p)
      (λ v _. ap (λ w. has w v) bit_is ∙ has-pow s v) (λ v _. sym (is_theirs-has p b v)) u l
      ∙ line-is 6 d p s u ls l

  moved_into : (t : ℕ) → t < 64 → has moved t ≡ into 6 d p (next d s) t
  unfolding is_next into
  moved_into t l =
      ap (λ w. has w t) moved_is ∙ has-word_of (is_next d (has line)) t l
      ∙ some_in_same (has line) (is_in (front_of 6 d p (next d s))) (next (reversed d) t) (next_lt (reversed d) t l) line_front

  pub open_word : bit_and moved p.own ≡ 0 → 0 ≡ word_of (is_in (flipped_along p s d))
  open_word e =
      let nothing : flipped_along p s d ≡ [] = flipped_along-unreached p s d ls
      (λ t l m i. false≢true (sym (sym (has-and moved p.own t) ∙ ap (λ w. has w t) e ∙ has-zero t)
      ∙ ap (λ x. x && has p.own t) (moved_into t l ∙ i) ∙ sym (is_mine-has p t) ∙ m)) in
      is_word_of 0 (is_in (flipped_along p s d)) (omega arith) (λ q _. has-zero q ∙ sym (ap (λ xs. is_in xs q) nothing ∙ in_nothing q))

  pub closed_word : 0 < bit_and moved p.own → line ≡ word_of (is_in (flipped_along p s d))
  closed_word h =
      let k = some_square (bit_and moved p.own) h (omega (arith, and_le_r moved p.own, b.own_fits)) in
      let both = and_parts (has moved k.0) (has p.own k.0) (sym (has-and moved p.own k.0) ∙ k.2) in
      let all : flipped_along p s d ≡ front_of 6 d p (next d s) =
      flipped_along-reached p s k.0 d ls k.1 (is_mine-has p k.0 ∙ both.1) (sym (moved_into k.0 k.1) ∙ both.0) in
      is_word_of line (is_in (flipped_along p s d)) (word_fits line (is_on_line 6 d (has bit) (has p.opp)) line_is)
      (λ q l. line_front q l ∙ sym (ap (λ xs. is_in xs q) all))

-- ---- over all directions

pub or_word : (w r : ℕ) (f g : ℕ → Bool) → w ≡ word_of f → r ≡ word_of g → bit_or w r ≡ word_of (λ q. f q || g q)
or_word w r f g e h =
    is_word_of (bit_or w r) (λ q. f q || g q) (or_lt 64 w r (word_fits w f e) (word_fits r g h))
    (λ q l. has-or w r q ∙ ap (λ x. x || has r q) (ap (λ x. has x q) e ∙ has-word_of f q l) ∙ ap (λ x. f q || x) (ap (λ x. has x q) h ∙ has-word_of g q l))

pub no_word : 0 ≡ word_of (λ _. false)
no_word = is_word_of 0 (λ _. false) (omega arith) (λ q l. has-zero q)

-- the union over the first elements of a list, with one element more
pub any_word_more : {X : Type 0} (f : X → ℕ → Bool) (xs : List X) (i w r : ℕ) (d : X) → i < length xs → w ≡ word_of (λ q. list_any (λ x. f x q) (take i xs))
    → r ≡ word_of (f (get_or xs i d)) → bit_or w r ≡ word_of (λ q. list_any (λ x. f x q) (take (i + 1) xs))
any_word_more f xs i w r d l e h =
    or_word w r (λ q. list_any (λ x. f x q) (take i xs)) (f (get_or xs i d)) e h
    ∙ word_of-same (λ q. list_any (λ x. f x q) (take i xs) || f (get_or xs i d) q) (λ q. list_any (λ x. f x q) (take (i + 1) xs))
    (λ q _. sym (list_any_more (λ x. f x q) xs i d l))

pub legal_word : (p : Position) (out empty : ℕ) → out ≡ word_of (λ s. list_any (outflanks p s) directions) → empty ≡ word_of (is_empty p) → bit_and out empty ≡ word_of (is_legal p)
legal_word p out empty e h =
    is_word_of (bit_and out empty) (is_legal p) (omega (arith, and_le_r out empty, h, word_of-lt (is_empty p)))
    (λ s l. has-and out empty s
    ∙ ap (λ x. x && has empty s) (ap (λ w. has w s) e ∙ has-word_of (λ s. list_any (outflanks p s) directions) s l)
    ∙ ap (λ x. list_any (outflanks p s) directions && x) (ap (λ w. has w s) h ∙ has-word_of (is_empty p) s l)
    ∙ and_turn (list_any (outflanks p s) directions) (is_empty p s)
    ∙ sym (legal-is p s l))

-- ---- a move

not_legal : (p : Position) (s : ℕ) → is_empty p s ≡ false → (q : ℕ) → is_flipped p s q ≡ false
unfolding is_flipped
not_legal p s e q = ap (λ b. b && list_any (λ d. is_in (flipped_along p s d) q) directions) e

-- an occupied square flips nothing
pub occupied_word : (p : Position) (s bit empty : ℕ) → s < 64 → bit ≡ 2 ^ s → empty ≡ word_of (is_empty p) → bit_and bit empty ≡ 0 → 0 ≡ word_of (is_flipped p s)
occupied_word p s bit empty l e h z =
    no_word ∙ word_of-same (λ _. false) (is_flipped p s) (λ q _. sym (not_legal p s (at_s) q))
  where
    at_s : is_empty p s ≡ false
    at_s = sym (has-word_of (is_empty p) s l) ∙ ap (λ w. has w s) (sym h)
        ∙ sym (ap (λ b. b && has empty s) (ap (λ w. has w s) e ∙ has-pow s s ∙ eq-eqb s s refl))
        ∙ sym (has-and bit empty s) ∙ ap (λ w. has w s) z ∙ has-zero s

-- a square that shares a bit with the empty ones is empty
pub empty_at : (p : Position) (s bit empty : ℕ) → s < 64 → bit ≡ 2 ^ s → empty ≡ word_of (is_empty p) → (bit_and bit empty ≡ 0 → ⊥) → is_empty p s ≡ true
empty_at p s bit empty l e h z =
    elim (cases_Bool (is_empty p s)) [
      | inl t ↦ t
      | inr f ↦ absurd (z (same_word (bit_and bit empty) 0 (omega (arith, and_le_r bit empty, word_fits empty (is_empty p) h)) (omega arith) (nothing f)))
    ]
  where
    none_else : (a : Bool) (q : ℕ) → is_empty p s ≡ false → (eqb s q && a) ≡ true → (eqb s q && is_empty p q) ≡ true → ⊥
    none_else a q f g k = let both = and_parts (eqb s q) (is_empty p q) k in false≢true (sym f ∙ ap (is_empty p) (eqb-true s q both.0) ∙ both.1)

    nothing : is_empty p s ≡ false → (q : ℕ) → q < 64 → has (bit_and bit empty) q ≡ has 0 q
    nothing f q k =
        has-and bit empty q
        ∙ ap (λ b. b && has empty q) (ap (λ w. has w q) e ∙ has-pow s q)
        ∙ ap (λ b. eqb s q && b) (ap (λ w. has w q) h ∙ has-word_of (is_empty p) q k)
        ∙ false_from_ne_true (eqb s q && is_empty p q) (λ t. none_else true q f (ap (λ b. b && true) (and_parts (eqb s q) (is_empty p q) t).0) t)
        ∙ sym (has-zero q)

pub flipped_of_empty : (p : Position) (s flipped : ℕ) → is_empty p s ≡ true → flipped ≡ word_of (λ q. list_any (λ d. is_in (flipped_along p s d) q) directions) → flipped ≡ word_of (is_flipped p s)
unfolding is_flipped
flipped_of_empty p s flipped at_s f =
    f ∙ word_of-same (λ q. list_any (λ d. is_in (flipped_along p s d) q) directions) (is_flipped p s)
    (λ q _. ap (λ b. b && list_any (λ d. is_in (flipped_along p s d) q) directions) (sym at_s))

pub flipped_word : (p : Position) (s bit empty flipped : ℕ) → s < 64 → bit ≡ 2 ^ s → empty ≡ word_of (is_empty p) → (bit_and bit empty ≡ 0 → ⊥)
    → flipped ≡ word_of (λ q. list_any (λ d. is_in (flipped_along p s d) q) directions) → flipped ≡ word_of (is_flipped p s)
flipped_word p s bit empty flipped l e h z f = flipped_of_empty p s flipped (empty_at p s bit empty l e h z) f

pub legal_empty : (p : Position) (s : ℕ) → is_legal p s ≡ true → is_empty p s ≡ true
unfolding is_legal is_flipped
legal_empty p s e =
    let k = any_picks_square (is_flipped p s) e in
    (and_parts (is_empty p s) (list_any (λ d. is_in (flipped_along p s d) k.0) directions) k.2).0

eqb-turn : (x y : ℕ) → eqb x y ≡ eqb y x
eqb-turn x y = same_bool (eqb x y) (eqb y x) (λ t. eq-eqb y x (sym (eqb-true x y t))) (λ t. eq-eqb x y (sym (eqb-true y x t)))

but_one : (o a x : Bool) → (a ≡ true → o ≡ false) → (o && not x) ≡ (o && not (a || x))
but_one true true x h = absurd (false≢true (sym (h refl)))
but_one true false x h = refl
but_one false a x h = refl

or_three : (o x a : Bool) → ((o || x) || a) ≡ ((a || x) || o)
or_three true true true = refl
or_three true true false = refl
or_three true false true = refl
or_three true false false = refl
or_three false true true = refl
or_three false true false = refl
or_three false false true = refl
or_three false false false = refl

opp_free_of : (x y : Bool) → not (x || y) ≡ true → y ≡ false
opp_free_of true y h = absurd (false≢true h)
opp_free_of false true h = absurd (false≢true h)
opp_free_of false false h = refl

-- the words after a move, where something is flipped
pub played : (p : Position) (s bit flipped : ℕ) → IsBoard p → s < 64 → bit ≡ 2 ^ s → flipped ≡ word_of (is_flipped p s) → is_legal p s ≡ true →
    ◌≡◌ {A = Position} (record { own = bit_and p.opp (2 ^ 64 - 1 - flipped); opp = bit_or (bit_or p.own flipped) bit }) (after p s)
played p s bit flipped b l e f legal =
    after-words p s (bit_and p.opp (2 ^ 64 - 1 - flipped)) (bit_or (bit_or p.own flipped) bit) b
    (omega (arith, and_le_l p.opp (2 ^ 64 - 1 - flipped), b.opp_fits))
    (or_lt 64 (bit_or p.own flipped) bit (or_lt 64 p.own flipped b.own_fits (word_fits flipped (is_flipped p s) f)) (omega (arith, e, pow_below s 64 l)))
    (λ q k. has-and p.opp (2 ^ 64 - 1 - flipped) q
    ∙ ap (λ x. has p.opp q && x) (has-not flipped q (word_fits flipped (is_flipped p s) f) k ∙ ap not (ap (λ w. has w q) f ∙ has-word_of (is_flipped p s) q k))
    ∙ but_one (has p.opp q) (q == s) (is_flipped p s q) (λ t. ap (has p.opp) (eqb-true q s t) ∙ free))
    (λ q k. has-or (bit_or p.own flipped) bit q
    ∙ ap (λ x. x || has bit q) (has-or p.own flipped q ∙ ap (λ x. has p.own q || x) (ap (λ w. has w q) f ∙ has-word_of (is_flipped p s) q k))
    ∙ ap (λ x. (has p.own q || is_flipped p s q) || x) (ap (λ w. has w q) e ∙ has-pow s q ∙ eqb-turn s q)
    ∙ or_three (has p.own q) (is_flipped p s q) (q == s))
  where
    free : has p.opp s ≡ false
    free = opp_free_of (has p.own s) (has p.opp s) (sym (is_empty-has p s) ∙ legal_empty p s legal)

pub played_inside : (own opp : ℕ) (p : Position) (s bit flipped : ℕ) → ◌≡◌ {A = Position} (record { own = own; opp = opp }) p → IsBoard (record { own = own; opp = opp }) → s < 64
    → bit ≡ 2 ^ s → flipped ≡ word_of (is_flipped p s) → is_legal p s ≡ true →
    ◌≡◌ {A = Position} (record { own = bit_and opp (2 ^ 64 - 1 - flipped); opp = bit_or (bit_or own flipped) bit }) (after p s)
played_inside own opp p s bit flipped e b l h =
    let P : Position → Type 0 = λ q.
    flipped ≡ word_of (is_flipped q s) → is_legal q s ≡ true
    → ◌≡◌ {A = Position} (record { own = bit_and opp (2 ^ 64 - 1 - flipped); opp = bit_or (bit_or own flipped) bit }) (after q s) in
    subst P e (played (record { own = own; opp = opp }) s bit flipped b l h)

-- ---- the list of directions that the code goes over

abbrev pub compasses : List Compass
compasses = North ∷ NorthEast ∷ East ∷ SouthEast ∷ South ∷ SouthWest ∷ West ∷ NorthWest ∷ []

pub any_compass : (f : Direction → Bool) → list_any (λ d. f (direction_of d)) compasses ≡ list_any f directions
unfolding directions
any_compass f = refl

pub all_compasses : (f : Direction → ℕ → Bool) (w i : ℕ) → 8 ≤ i → w ≡ word_of (λ q. list_any (λ d. f (direction_of d) q) (take i compasses)) → w ≡ word_of (λ q. list_any (λ d. f d q) directions)
all_compasses f w i l e =
    e ∙ word_of-same (λ q. list_any (λ d. f (direction_of d) q) (take i compasses)) (λ q. list_any (λ d. f d q) directions)
    (λ q _. ap (list_any (λ d. f (direction_of d) q)) (take_all i compasses l) ∙ any_compass (λ d. f d q))

-- ---- whether a side can move

pub not_not : (b : Bool) → not (not b) ≡ b
not_not true = refl
not_not false = refl

pub move_test : (p : Position) (w : ℕ) → w ≡ word_of (is_legal p) → eqb w 0 ≡ not (can_move p)
unfolding can_move
move_test p w e =
    elim (cases_eq w 0) [
      | inl z ↦ eq-eqb w 0 z ∙ sym (ap not (no_square (is_legal p) (sym e ∙ z)))
      | inr n ↦ ne_eqb w 0 n ∙ sym (ap not (some_squares (is_legal p) (omega (arith, e, n))))
    ]

pub over_then : (p : Position) (w v : ℕ) (q : Position) → w ≡ word_of (is_legal p) → w ≡ 0 → q ≡ pass p → v ≡ word_of (is_legal q) → eqb v 0 ≡ is_over p
unfolding is_over
over_then p w v q e z k h =
    move_test q v h
    ∙ ap (λ x. not (can_move x)) k
    ∙ ap (λ b. b && not (can_move (pass p))) (sym (eq-eqb w 0 z) ∙ move_test p w e)

pub over_else : (p : Position) (w : ℕ) → w ≡ word_of (is_legal p) → (w ≡ 0 → ⊥) → eqb w 0 ≡ is_over p
unfolding is_over
over_else p w e n =
    ne_eqb w 0 n ∙ ap (λ b. b && not (can_move (pass p))) (sym (ne_eqb w 0 n) ∙ move_test p w e)

pub flipped_none : (p : Position) (s w : ℕ) → w ≡ word_of (is_flipped p s) → w ≡ 0 → is_legal p s ≡ false
unfolding is_legal
flipped_none p s w e z = no_square (is_flipped p s) (sym e ∙ z)

pub flipped_some : (p : Position) (s w : ℕ) → w ≡ word_of (is_flipped p s) → (w ≡ 0 → ⊥) → is_legal p s ≡ true
unfolding is_legal
flipped_some p s w e n = some_squares (is_flipped p s) (omega (arith, e, n))

-- nothing is flipped just where the move is illegal
pub none_is : (p : Position) (s w : ℕ) → w ≡ word_of (is_flipped p s) → (w ≡ 0) ↔ (is_legal p s ≡ false)
none_is p s w e = (
  flipped_none p s w e,
  λ illegal. elim (cases_eq w 0) [
    | inl z ↦ z
    | inr n ↦ absurd (false≢true (sym illegal ∙ flipped_some p s w e n))
  ],
)

pub IsBoard-after : (p : Position) (s : ℕ) → IsBoard (after p s)
IsBoard-after p s = rw (after-is p s) (position_of-IsBoard (λ q. opposite_cell (if q == s || is_flipped p s q then Mine else cell p q)))
