-- The legal squares by plain shifts: along a line that leaves the edge columns out, a shift of whole words is a step.
use Rattle.std.proofs.Common.{◌≡◌, ℕ, zero, suc, ◌+◌, ◌-◌, ◌*◌, ◌/◌, ◌%◌, ◌^◌, ◌<◌, Bool, true, false, not, ◌&&◌, ◌||◌, Option, Some, None, refl, sym, ap, ◌∙◌, inl, inr, arith}
use Rattle.std.specs.Prelude.{bit_and, bit_or, nat_lt, IfSome}
use Rattle.std.proofs.lemmas.Bool.{and_parts, or_cases, cases_lt, agree_below, agree_below_at, lt-ltb}
use Rattle.std.specs.List.{list_any}
use Rattle.std.proofs.lemmas.Nat.{and_le_l}
use Rattle.oth_rules.specs.Square.{has, word_of, Direction, Back, Stay, Forth, next, stepped, square_at}
use Rattle.oth_rules.specs.Position.{Position, IsBoard, is_mine, is_theirs}
use Rattle.oth_rules.specs.Line.{reversed, east, rising_directions, falling_directions, some_in, is_next, is_on_line, outflanks, rises_onto, falls_onto, Rises, Falls}
use Rattle.oth_rules.specs.declared.masks.TheConstants.{INNER}
use Rattle.oth_rules.proofs.Bits.{has-and, has-or, has-word_of, word_of-same}
use Rattle.oth_rules.proofs.Lines.{next_lt, is_next-same, and_turn}
use Rattle.oth_rules.proofs.Rays.{some_in-or, or_true}
use Rattle.oth_rules.proofs.Legal.{outflanks-line}
use Rattle.oth_rules.proofs.Positions.{is_mine-has, is_theirs-has}
use Rattle.oth_rules.proofs.Words.{is_on_line-same}
use Rattle.oth_rules.proofs.RowCarry.{past_east as past_east_at}
use Rattle.oth_rules.proofs.Slides.{past_word, past_rising, past_falling}
use Rattle.oth_rules.proofs.Table.{or_words4}

-- ---- a line may leave out each square that no step leads to

is_none : Option ℕ → Bool
is_none None = true
is_none (Some s) = false

-- a square before another is in the set, or no step leads to it
in_or_first : (ℕ → Bool) → Direction → Option ℕ → Bool
in_or_first set d None = true
in_or_first set d (Some s) = set s || is_none (next (reversed d) s)

covers : (ℕ → Bool) → Direction → Bool
covers set d = agree_below (λ t. in_or_first set d (next (reversed d) t)) (λ _. true) 64

from_none : (f : ℕ → Bool) (o : Option ℕ) → is_none o ≡ true → some_in f o ≡ false
unfolding is_none some_in
from_none f None e = refl
from_none f (Some s) e = absurd (cc)

and_true : (a : Bool) → (a && true) ≡ a
and_true true = refl
and_true false = refl

-- one square more, from what holds of n squares
within_more : (n : ℕ) (d : Direction) (set source through : ℕ → Bool) →
    ((s : ℕ) → s < 64 → is_next d (is_on_line n d source (λ v. through v && set v)) s ≡ is_next d (is_on_line n d source through) s) →
    (o : Option ℕ) → IfSome o (λ s. s < 64) → in_or_first set d o ≡ true → some_in (is_on_line (suc n) d source (λ v. through v && set v)) o ≡ some_in (is_on_line (suc n) d source through) o
unfolding in_or_first some_in is_on_line is_next
within_more n d set source through before None m e = refl
within_more n d set source through before (Some s) m e =
    elim (or_cases (set s) (is_none (next (reversed d) s)) e) [
      | inl in_set ↦
          ap (λ b. (through s && b) && is_next d (λ u. source u || is_on_line n d source (λ v. through v && set v) u) s) in_set
          ∙ ap (λ b. b && is_next d (λ u. source u || is_on_line n d source (λ v. through v && set v) u) s) (and_true (through s))
          ∙ ap (λ b. through s && b) onto
      | inr first ↦
          ap (λ b. (through s && set s) && b) (from_none (λ u. source u || is_on_line n d source (λ v. through v && set v) u) (next (reversed d) s) first)
          ∙ and_turn (through s && set s) false
          ∙ sym (and_turn (through s) false)
          ∙ ap (λ b. through s && b) (sym (from_none (λ u. source u || is_on_line n d source through u) (next (reversed d) s) first))
    ]
  where
    onto : is_next d (λ u. source u || is_on_line n d source (λ v. through v && set v) u) s ≡ is_next d (λ u. source u || is_on_line n d source through u) s
    onto =
        some_in-or source (is_on_line n d source (λ v. through v && set v)) (next (reversed d) s)
        ∙ ap (λ b. some_in source (next (reversed d) s) || b) (before s m)
        ∙ sym (some_in-or source (is_on_line n d source through) (next (reversed d) s))

line_within : (n : ℕ) (d : Direction) (set source through : ℕ → Bool) → covers set d ≡ true → (t : ℕ) → t < 64 →
    is_next d (is_on_line n d source (λ v. through v && set v)) t ≡ is_next d (is_on_line n d source through) t
unfolding covers is_next is_on_line
line_within zero d set source through h t l = refl
line_within (suc n) d set source through h t l =
    within_more n d set source through (line_within n d set source through h) (next (reversed d) t) (next_lt (reversed d) t l)
    (agree_below_at (λ t. in_or_first set d (next (reversed d) t)) (λ _. true) 64 t h l)

-- ---- a plain shift along a direction is a step, on the squares of a set

rises_on : (ℕ → Bool) → ℕ → Direction → Bool
rises_on set by d = agree_below (λ t. rises_onto by set t (next (reversed d) t)) (λ _. true) 64

falls_on : (ℕ → Bool) → ℕ → Direction → Bool
falls_on set by d = agree_below (λ t. falls_onto by set t (next (reversed d) t)) (λ _. true) 64

module _ (set narrow : ℕ → Bool) (within : (s : ℕ) → s < 64 → narrow s ≡ true → set s ≡ true) where
  neither_too : (s t : ℕ) → s < 64 → t < 64 → not (set s || set t) ≡ true → not (narrow s || narrow t) ≡ true
  neither_too s t ls lt e = both (narrow s) (narrow t) (set s) (set t) (within s ls) (within t lt) e
    where
      both : (a b c e : Bool) → (a ≡ true → c ≡ true) → (b ≡ true → e ≡ true) → not (c || e) ≡ true → not (a || b) ≡ true
      both true b c e h k n = let yes : c ≡ true = h refl in absurd (cc)
      both false true false e h k n = let yes : e ≡ true = k refl in absurd (cc)
      both false true true e h k n = absurd (cc)
      both false false c e h k n = refl

  rises_narrow : (by t : ℕ) (o : Option ℕ) → t < 64 → rises_onto by set t o ≡ true → rises_onto by narrow t o ≡ true
  unfolding rises_onto
  rises_narrow by t None l e =
      elim (or_cases (nat_lt t by) (not (set t || set (t - by))) e) [
        | inl low ↦ ap (λ b. b || not (narrow t || narrow (t - by))) low
        | inr out ↦ or_true (nat_lt t by) (not (narrow t || narrow (t - by))) (neither_too t (t - by) l (omega arith) out)
      ]
  rises_narrow by t (Some s) l e = e

  falls_narrow : (by t : ℕ) (o : Option ℕ) → t < 64 → falls_onto by set t o ≡ true → falls_onto by narrow t o ≡ true
  unfolding falls_onto
  falls_narrow by t None l e =
      elim (cases_lt (t + by) 64) [
        | inl low ↦ elim (or_cases (nat_lt 63 (t + by)) (not (set t || set (t + by))) e) [
          | inl high ↦ ap (λ b. b || not (narrow t || narrow (t + by))) high
          | inr out ↦ or_true (nat_lt 63 (t + by)) (not (narrow t || narrow (t + by))) (neither_too t (t + by) l low out)
        ]
        | inr high ↦ ap (λ b. b || not (narrow t || narrow (t + by))) (lt-ltb 63 (t + by) (omega arith))
      ]
  falls_narrow by t (Some s) l e = e

-- past lines of theirs within the set, from mine: the squares that outflank in direction d
module _ (set : ℕ → Bool) (by : ℕ) (d : Direction) (p : Position) (through moved : ℕ) (b : IsBoard p) (covered : covers set (reversed d) ≡ true)
    (is_narrow : (s : ℕ) → has through s ≡ (has p.opp s && set s)) where
  in_set : (s : ℕ) → s < 64 → has through s ≡ true → set s ≡ true
  in_set s l e = (and_parts (has p.opp s) (set s) (sym (is_narrow s) ∙ e)).1

  outflanking_past : moved ≡ word_of (is_next (reversed d) (is_on_line 6 (reversed d) (has p.own) (has through))) → moved ≡ word_of (λ s. outflanks p s d)
  outflanking_past m =
      m ∙ word_of-same (is_next (reversed d) (is_on_line 6 (reversed d) (has p.own) (has through))) (λ s. outflanks p s d)
      (λ t l. is_next-same (reversed d) (is_on_line 6 (reversed d) (has p.own) (has through)) (is_on_line 6 (reversed d) (is_mine p) (λ s. is_theirs p s && set s)) t l
      (λ u j. is_on_line-same 6 (reversed d) (has p.own) (is_mine p) (has through) (λ s. is_theirs p s && set s)
      (λ v _. sym (is_mine-has p v)) (λ v _. is_narrow v ∙ ap (λ x. x && set v) (sym (is_theirs-has p b v))) u j)
      ∙ line_within 6 (reversed d) set (is_mine p) (is_theirs p) covered t l
      ∙ outflanks-line p t d)

  rising_past : rises_on set by (reversed d) ≡ true →
      ((e : Direction) → Rises e by (has through) → moved ≡ word_of (is_next e (is_on_line 6 e (has p.own) (has through)))) → moved ≡ word_of (λ s. outflanks p s d)
  unfolding rises_on
  rising_past r m =
      outflanking_past (m (reversed d) (λ t l. rises_narrow set (has through) in_set by t (next (reversed (reversed d)) t) l
      (agree_below_at (λ t. rises_onto by set t (next (reversed (reversed d)) t)) (λ _. true) 64 t r l)))

  falling_past : falls_on set by (reversed d) ≡ true →
      ((e : Direction) → Falls e by (has through) → moved ≡ word_of (is_next e (is_on_line 6 e (has p.own) (has through)))) → moved ≡ word_of (λ s. outflanks p s d)
  unfolding falls_on
  falling_past r m =
      outflanking_past (m (reversed d) (λ t l. falls_narrow set (has through) in_set by t (next (reversed (reversed d)) t) l
      (agree_below_at (λ t. falls_onto by set t (next (reversed (reversed d)) t)) (λ _. true) 64 t r l)))

-- ---- the eight directions

-- what is known of a word past the lines of `through`, in each direction that it may be read in
abbrev pub Past : Position → ℕ → (Direction → Type 0) → ℕ → Type 0
Past p through along moved = (e : Direction) → along e → moved ≡ word_of (is_next e (is_on_line 6 e (has p.own) (has through)))

all_squares : (p : Position) (s : ℕ) → has p.opp s ≡ (has p.opp s && true)
all_squares p s = sym (and_true (has p.opp s))

inner_squares : (p : Position) (s : ℕ) → has (bit_and p.opp INNER) s ≡ (has p.opp s && has INNER s)
inner_squares p s = has-and p.opp INNER s

pub past_north : (p : Position) (moved : ℕ) → IsBoard p → Past p p.opp (λ e. Rises e 8 (has p.opp)) moved → moved ≡ word_of (λ s. outflanks p s (record { columns = Stay; rows = Back }))
unfolding covers in_or_first is_none rises_on rises_onto next stepped square_at
past_north p moved b m = rising_past (λ _. true) 8 (record { columns = Stay; rows = Back }) p p.opp moved b refl (all_squares p) refl m

pub past_north_east : (p : Position) (moved : ℕ) → IsBoard p → Past p (bit_and p.opp INNER) (λ e. Rises e 7 (has (bit_and p.opp INNER))) moved
    → moved ≡ word_of (λ s. outflanks p s (record { columns = Forth; rows = Back }))
unfolding covers in_or_first is_none rises_on rises_onto next stepped square_at has
past_north_east p moved b m = rising_past (has INNER) 7 (record { columns = Forth; rows = Back }) p (bit_and p.opp INNER) moved b refl (inner_squares p) refl m

past_east : (p : Position) (moved : ℕ) → IsBoard p → Past p (bit_and p.opp INNER) (λ e. Falls e 1 (has (bit_and p.opp INNER))) moved
    → moved ≡ word_of (λ s. outflanks p s (record { columns = Forth; rows = Stay }))
unfolding covers in_or_first is_none falls_on falls_onto next stepped square_at has
past_east p moved b m = falling_past (has INNER) 1 (record { columns = Forth; rows = Stay }) p (bit_and p.opp INNER) moved b refl (inner_squares p) refl m

past_south_east : (p : Position) (moved : ℕ) → IsBoard p → Past p (bit_and p.opp INNER) (λ e. Falls e 9 (has (bit_and p.opp INNER))) moved
    → moved ≡ word_of (λ s. outflanks p s (record { columns = Forth; rows = Forth }))
unfolding covers in_or_first is_none falls_on falls_onto next stepped square_at has
past_south_east p moved b m = falling_past (has INNER) 9 (record { columns = Forth; rows = Forth }) p (bit_and p.opp INNER) moved b refl (inner_squares p) refl m

past_south : (p : Position) (moved : ℕ) → IsBoard p → Past p p.opp (λ e. Falls e 8 (has p.opp)) moved → moved ≡ word_of (λ s. outflanks p s (record { columns = Stay; rows = Forth }))
unfolding covers in_or_first is_none falls_on falls_onto next stepped square_at
past_south p moved b m = falling_past (λ _. true) 8 (record { columns = Stay; rows = Forth }) p p.opp moved b refl (all_squares p) refl m

past_south_west : (p : Position) (moved : ℕ) → IsBoard p → Past p (bit_and p.opp INNER) (λ e. Falls e 7 (has (bit_and p.opp INNER))) moved
    → moved ≡ word_of (λ s. outflanks p s (record { columns = Back; rows = Forth }))
unfolding covers in_or_first is_none falls_on falls_onto next stepped square_at has
past_south_west p moved b m = falling_past (has INNER) 7 (record { columns = Back; rows = Forth }) p (bit_and p.opp INNER) moved b refl (inner_squares p) refl m

past_west : (p : Position) (moved : ℕ) → IsBoard p → Past p (bit_and p.opp INNER) (λ e. Rises e 1 (has (bit_and p.opp INNER))) moved
    → moved ≡ word_of (λ s. outflanks p s (record { columns = Back; rows = Stay }))
unfolding covers in_or_first is_none rises_on rises_onto next stepped square_at has
past_west p moved b m = rising_past (has INNER) 1 (record { columns = Back; rows = Stay }) p (bit_and p.opp INNER) moved b refl (inner_squares p) refl m

pub past_north_west : (p : Position) (moved : ℕ) → IsBoard p → Past p (bit_and p.opp INNER) (λ e. Rises e 9 (has (bit_and p.opp INNER))) moved
    → moved ≡ word_of (λ s. outflanks p s (record { columns = Back; rows = Back }))
unfolding covers in_or_first is_none rises_on rises_onto next stepped square_at has
past_north_west p moved b m = rising_past (has INNER) 9 (record { columns = Back; rows = Back }) p (bit_and p.opp INNER) moved b refl (inner_squares p) refl m

-- a line to the east that begins beside a disc of mine: to its last square the mover outflanks to the west
pub past_east_word : (p : Position) → IsBoard p → word_of (is_next east (is_on_line 6 east (has p.own) (has (bit_and p.opp INNER))))
    ≡ word_of (λ s. outflanks p s (record { columns = Back; rows = Stay }))
unfolding covers in_or_first is_none next stepped square_at has
past_east_word p b =
    outflanking_past (has INNER) 1 (record { columns = Back; rows = Stay }) p (bit_and p.opp INNER)
    (word_of (is_next east (is_on_line 6 east (has p.own) (has (bit_and p.opp INNER))))) b refl (inner_squares p) refl

-- ---- four directions of one sense

abbrev pub past_rising_word : ℕ → ℕ → ℕ → ℕ
past_rising_word by source through = past_word (λ w. w * 2 ^ by % 2 ^ 64) (λ w. w * 2 ^ (2 * by) % 2 ^ 64) source through

abbrev pub past_falling_word : ℕ → ℕ → ℕ → ℕ
past_falling_word by source through = past_word (λ w. w / 2 ^ by) (λ w. w / 2 ^ (2 * by)) source through

module _ (p : Position) (board : IsBoard p) where
  inner_fits : bit_and p.opp INNER < 2 ^ 64
  inner_fits = omega (arith, and_le_l p.opp INNER, board.opp_fits)

  past_rising_four : bit_or (bit_or (bit_or (past_rising_word 8 p.own p.opp) (past_rising_word 7 p.own (bit_and p.opp INNER))) (past_rising_word 1 p.own (bit_and p.opp INNER)))
      (past_rising_word 9 p.own (bit_and p.opp INNER))
      ≡ word_of (λ s. list_any (outflanks p s) falling_directions)
  unfolding falling_directions
  past_rising_four =
      or_words4 (past_rising_word 8 p.own p.opp) (past_rising_word 7 p.own (bit_and p.opp INNER)) (past_rising_word 1 p.own (bit_and p.opp INNER)) (past_rising_word 9 p.own (bit_and p.opp INNER))
      (λ s. outflanks p s (record { columns = Stay; rows = Back }))
      (λ s. outflanks p s (record { columns = Forth; rows = Back }))
      (λ s. outflanks p s (record { columns = Back; rows = Stay }))
      (λ s. outflanks p s (record { columns = Back; rows = Back }))
      (past_north p (past_rising_word 8 p.own p.opp) board (λ e r. past_rising e 8 p.own p.opp board.own_fits board.opp_fits r))
      (past_north_east p (past_rising_word 7 p.own (bit_and p.opp INNER)) board (λ e r. past_rising e 7 p.own (bit_and p.opp INNER) board.own_fits inner_fits r))
      (past_west p (past_rising_word 1 p.own (bit_and p.opp INNER)) board (λ e r. past_rising e 1 p.own (bit_and p.opp INNER) board.own_fits inner_fits r))
      (past_north_west p (past_rising_word 9 p.own (bit_and p.opp INNER)) board (λ e r. past_rising e 9 p.own (bit_and p.opp INNER) board.own_fits inner_fits r))

  past_falling_four : bit_or (bit_or (bit_or (past_falling_word 1 p.own (bit_and p.opp INNER)) (past_falling_word 9 p.own (bit_and p.opp INNER))) (past_falling_word 8 p.own p.opp))
      (past_falling_word 7 p.own (bit_and p.opp INNER))
      ≡ word_of (λ s. list_any (outflanks p s) rising_directions)
  unfolding rising_directions
  past_falling_four =
      or_words4 (past_falling_word 1 p.own (bit_and p.opp INNER)) (past_falling_word 9 p.own (bit_and p.opp INNER)) (past_falling_word 8 p.own p.opp) (past_falling_word 7 p.own (bit_and p.opp INNER))
      (λ s. outflanks p s (record { columns = Forth; rows = Stay }))
      (λ s. outflanks p s (record { columns = Forth; rows = Forth }))
      (λ s. outflanks p s (record { columns = Stay; rows = Forth }))
      (λ s. outflanks p s (record { columns = Back; rows = Forth }))
      (past_east p (past_falling_word 1 p.own (bit_and p.opp INNER)) board (λ e r. past_falling e 1 p.own (bit_and p.opp INNER) board.own_fits inner_fits r))
      (past_south_east p (past_falling_word 9 p.own (bit_and p.opp INNER)) board (λ e r. past_falling e 9 p.own (bit_and p.opp INNER) board.own_fits inner_fits r))
      (past_south p (past_falling_word 8 p.own p.opp) board (λ e r. past_falling e 8 p.own p.opp board.own_fits board.opp_fits r))
      (past_south_west p (past_falling_word 7 p.own (bit_and p.opp INNER)) board (λ e r. past_falling e 7 p.own (bit_and p.opp INNER) board.own_fits inner_fits r))

-- the same of the two words by themselves
pub rising_lanes : (p : Position) (own opp : ℕ) → IsBoard p → own ≡ p.own → opp ≡ p.opp →
    bit_or (bit_or (bit_or (past_rising_word 8 own opp) (past_rising_word 7 own (bit_and opp INNER))) (past_rising_word 1 own (bit_and opp INNER))) (past_rising_word 9 own (bit_and opp INNER))
    ≡ word_of (λ s. list_any (outflanks p s) falling_directions)
rising_lanes p own opp b e h = rw (e, h) (past_rising_four p b)

pub falling_lanes : (p : Position) (own opp : ℕ) → IsBoard p → own ≡ p.own → opp ≡ p.opp →
    bit_or (bit_or (bit_or (past_falling_word 1 own (bit_and opp INNER)) (past_falling_word 9 own (bit_and opp INNER))) (past_falling_word 8 own opp)) (past_falling_word 7 own (bit_and opp INNER))
    ≡ word_of (λ s. list_any (outflanks p s) rising_directions)
falling_lanes p own opp b e h = rw (e, h) (past_falling_four p b)

-- ---- the four directions where numbers fall, by words past rising lines and the row by a sum

row_first : (w ne n nw : Bool) → (((w || ne) || n) || nw) ≡ (n || (ne || (w || (nw || false))))
row_first true true true nw = refl
row_first true true false nw = refl
row_first true false true nw = refl
row_first true false false nw = refl
row_first false true true nw = refl
row_first false true false nw = refl
row_first false false true nw = refl
row_first false false false true = refl
row_first false false false false = refl

pub falling_by_sum : (p : Position) (row a b c : ℕ) → IsBoard p →
    row ≡ bit_and p.opp INNER + bit_and (bit_and p.opp INNER) (p.own * 2 ^ 1 % 2 ^ 64) →
    Past p (bit_and p.opp INNER) (λ x. Rises x 7 (has (bit_and p.opp INNER))) a → Past p p.opp (λ x. Rises x 8 (has p.opp)) b →
    Past p (bit_and p.opp INNER) (λ x. Rises x 9 (has (bit_and p.opp INNER))) c →
    (t : ℕ) → t < 64 → has p.opp t ≡ false → has (bit_or (bit_or (bit_or row a) b) c) t ≡ list_any (outflanks p t) falling_directions
unfolding falling_directions
falling_by_sum p row a b c board er ea eb ec t l free =
    has-or (bit_or (bit_or row a) b) c t ∙ ap (λ x. x || has c t) (has-or (bit_or row a) b t ∙ ap (λ x. x || has b t) (has-or row a t))
    ∙ ap (λ x. ((x || has a t) || has b t) || has c t) west
    ∙ ap (λ x. ((outflanks p t (record { columns = Back; rows = Stay }) || x) || has b t) || has c t) (of_word a (record { columns = Forth; rows = Back }) (past_north_east p a board ea))
    ∙ ap (λ x. ((outflanks p t (record { columns = Back; rows = Stay }) || outflanks p t (record { columns = Forth; rows = Back })) || x) || has c t)
    (of_word b (record { columns = Stay; rows = Back }) (past_north p b board eb))
    ∙ ap (λ x. ((outflanks p t (record { columns = Back; rows = Stay }) || outflanks p t (record { columns = Forth; rows = Back })) || outflanks p t (record { columns = Stay; rows = Back })) || x)
    (of_word c (record { columns = Back; rows = Back }) (past_north_west p c board ec))
    ∙ row_first (outflanks p t (record { columns = Back; rows = Stay })) (outflanks p t (record { columns = Forth; rows = Back }))
    (outflanks p t (record { columns = Stay; rows = Back })) (outflanks p t (record { columns = Back; rows = Back }))
  where
    of_word : (w : ℕ) (d : Direction) → w ≡ word_of (λ s. outflanks p s d) → has w t ≡ outflanks p t d
    of_word w d e = ap (λ x. has x t) e ∙ has-word_of (λ s. outflanks p s d) t l

    west : has row t ≡ outflanks p t (record { columns = Back; rows = Stay })
    west =
        ap (λ x. has x t) er ∙ past_east_at p.own p.opp board.opp_fits t l free
        ∙ sym (has-word_of (is_next east (is_on_line 6 east (has p.own) (has (bit_and p.opp INNER)))) t l)
        ∙ ap (λ x. has x t) (past_east_word p board)
        ∙ has-word_of (λ s. outflanks p s (record { columns = Back; rows = Stay })) t l
