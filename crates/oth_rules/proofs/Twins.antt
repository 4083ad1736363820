-- A board beside itself turned by half a turn: what the lanes of a vector compute of it.
use Rattle.std.proofs.Common.{◌≡◌, ℕ, ◌+◌, ◌-◌, ◌*◌, ◌%◌, ◌^◌, ◌<◌, Bool, true, false, not, ◌&&◌, ◌||◌, List, [], ◌∷◌, refl, sym, ap, ◌∙◌, arith}
use Rattle.std.specs.Prelude.{bit_and, bit_or, slice_index_or}
use Rattle.std.specs.List.{list_any}
use Rattle.std.proofs.lemmas.Bool.{agree_below, agree_below_at, false≢true}
use Rattle.std.proofs.lemmas.Nat.{or_comm, or_lt, and_le_l, and_le_r, le_or_l, le_or_r}
use Rattle.oth_rules.specs.Square.{Direction, Back, Stay, Forth, has, word_below, word_of, next, stepped, square_at, squares, directions, ray_from, ray, is_in}
use Rattle.oth_rules.specs.Position.{Position, IsBoard, is_empty}
use Rattle.oth_rules.specs.Move.{outflanked, flipped_along, is_flipped, is_legal}
use Rattle.oth_rules.specs.Line.{outflanks, is_next, is_on_line, Rises, rising, rising_directions, falling_directions}
use Rattle.oth_rules.specs.Symmetry.{image, map_word, map_square, unmap_square, turned_if}
use Rattle.oth_rules.specs.HalfTurn.{half_turned, twin}
use Rattle.oth_rules.specs.declared.masks.TheConstants.{INNER}
use Rattle.oth_rules.specs.declared.tables.twin_rays.TheConstants.{TWIN_RAYS, TWIN_SQUARES}
use Rattle.oth_rules.proofs.Bits.{has-and, has-or, has-word_of, is_word_of, word_of-same, word_of-lt}
use Rattle.oth_rules.proofs.Canonical.{image-words}
use Rattle.oth_rules.proofs.Carried.{along-moved, outflanks-moved, empty-moved}
use Rattle.oth_rules.proofs.HalfTurns.{half, has-half, half-word_of, half-twice, half-and, half-or, half-not, half-lt, half_half, half_within}
use Rattle.oth_rules.proofs.Legal.{any_same, legal-is}
use Rattle.oth_rules.proofs.Symmetries.{carries, unturned, image-moved}
use Rattle.oth_rules.proofs.Moves.{falling_by_sum}
use Rattle.oth_rules.proofs.Positions.{is_empty-has}
use Rattle.oth_rules.proofs.Table.{same_line, same_line-is, or_words4, senses, senses_word}
use Rattle.oth_rules.proofs.Words.{flipped_of_empty}

-- ---- the table of rays

abbrev pub twin_ray : ℕ → ℕ → ℕ → ℕ
twin_ray s i lane = slice_index_or (slice_index_or (slice_index_or TWIN_RAYS s []) i []) lane 0

is_first_ray : ℕ → Direction → ℕ → Bool
is_first_ray i d s = same_line (rising (twin_ray s i 0)) (ray d s)

is_second_ray : ℕ → Direction → ℕ → Bool
is_second_ray i d s = same_line (rising (twin_ray s i 1)) (ray d (half s))

first_rays : (i : ℕ) (d : Direction) → Bool
first_rays i d = agree_below (is_first_ray i d) (λ _. true) 64

second_rays : (i : ℕ) (d : Direction) → Bool
second_rays i d = agree_below (is_second_ray i d) (λ _. true) 64

first_east : first_rays 0 (record { columns = Forth; rows = Stay }) ≡ true
unfolding first_rays is_first_ray same_line rising has squares ray ray_from next stepped square_at
first_east = refl

first_south_east : first_rays 1 (record { columns = Forth; rows = Forth }) ≡ true
unfolding first_rays is_first_ray same_line rising has squares ray ray_from next stepped square_at
first_south_east = refl

first_south : first_rays 2 (record { columns = Stay; rows = Forth }) ≡ true
unfolding first_rays is_first_ray same_line rising has squares ray ray_from next stepped square_at
first_south = refl

first_south_west : first_rays 3 (record { columns = Back; rows = Forth }) ≡ true
unfolding first_rays is_first_ray same_line rising has squares ray ray_from next stepped square_at
first_south_west = refl

second_east : second_rays 0 (record { columns = Forth; rows = Stay }) ≡ true
unfolding second_rays is_second_ray same_line rising has squares ray ray_from next stepped square_at unmap_square turned_if
second_east = refl

second_south_east : second_rays 1 (record { columns = Forth; rows = Forth }) ≡ true
unfolding second_rays is_second_ray same_line rising has squares ray ray_from next stepped square_at unmap_square turned_if
second_south_east = refl

second_south : second_rays 2 (record { columns = Stay; rows = Forth }) ≡ true
unfolding second_rays is_second_ray same_line rising has squares ray ray_from next stepped square_at unmap_square turned_if
second_south = refl

second_south_west : second_rays 3 (record { columns = Back; rows = Forth }) ≡ true
unfolding second_rays is_second_ray same_line rising has squares ray ray_from next stepped square_at unmap_square turned_if
second_south_west = refl

along_first : (p : Position) (s i w : ℕ) (d : Direction) → first_rays i d ≡ true → s < 64 → w ≡ word_of (is_in (outflanked p (rising (twin_ray s i 0)))) → w ≡ word_of (is_in (flipped_along p s d))
unfolding first_rays is_first_ray flipped_along
along_first p s i w d computed l e =
    e ∙ ap (λ xs. word_of (is_in (outflanked p xs))) (same_line-is (rising (twin_ray s i 0)) (ray d s) (agree_below_at (is_first_ray i d) (λ _. true) 64 s computed l))

along_second : (p : Position) (s i w : ℕ) (d : Direction) → second_rays i d ≡ true → s < 64 → w ≡ word_of (is_in (outflanked p (rising (twin_ray s i 1))))
    → w ≡ word_of (is_in (flipped_along p (half s) d))
unfolding second_rays is_second_ray flipped_along
along_second p s i w d computed l e =
    e ∙ ap (λ xs. word_of (is_in (outflanked p xs))) (same_line-is (rising (twin_ray s i 1)) (ray d (half s)) (agree_below_at (is_second_ray i d) (λ _. true) 64 s computed l))

-- ---- both lanes of what is outflanked along rising rays

pub first_part : (p : Position) (s a b c d : ℕ) → s < 64 →
    a ≡ word_of (is_in (outflanked p (rising (twin_ray s 0 0)))) → b ≡ word_of (is_in (outflanked p (rising (twin_ray s 1 0)))) →
    c ≡ word_of (is_in (outflanked p (rising (twin_ray s 2 0)))) → d ≡ word_of (is_in (outflanked p (rising (twin_ray s 3 0)))) →
    bit_or (bit_or (bit_or a b) c) d ≡ word_of (λ q. list_any (λ d. is_in (flipped_along p s d) q) rising_directions)
unfolding rising_directions
first_part p s a b c d l ea eb ec ed =
    or_words4 a b c d
    (is_in (flipped_along p s (record { columns = Forth; rows = Stay })))
    (is_in (flipped_along p s (record { columns = Forth; rows = Forth })))
    (is_in (flipped_along p s (record { columns = Stay; rows = Forth })))
    (is_in (flipped_along p s (record { columns = Back; rows = Forth })))
    (along_first p s 0 a (record { columns = Forth; rows = Stay }) first_east l ea)
    (along_first p s 1 b (record { columns = Forth; rows = Forth }) first_south_east l eb)
    (along_first p s 2 c (record { columns = Stay; rows = Forth }) first_south l ec)
    (along_first p s 3 d (record { columns = Back; rows = Forth }) first_south_west l ed)

pub second_part : (p : Position) (s a b c d : ℕ) → s < 64 →
    a ≡ word_of (is_in (outflanked p (rising (twin_ray s 0 1)))) → b ≡ word_of (is_in (outflanked p (rising (twin_ray s 1 1)))) →
    c ≡ word_of (is_in (outflanked p (rising (twin_ray s 2 1)))) → d ≡ word_of (is_in (outflanked p (rising (twin_ray s 3 1)))) →
    bit_or (bit_or (bit_or a b) c) d ≡ word_of (λ q. list_any (λ d. is_in (flipped_along p (half s) d) q) rising_directions)
unfolding rising_directions
second_part p s a b c d l ea eb ec ed =
    or_words4 a b c d
    (is_in (flipped_along p (half s) (record { columns = Forth; rows = Stay })))
    (is_in (flipped_along p (half s) (record { columns = Forth; rows = Forth })))
    (is_in (flipped_along p (half s) (record { columns = Stay; rows = Forth })))
    (is_in (flipped_along p (half s) (record { columns = Back; rows = Forth })))
    (along_second p s 0 a (record { columns = Forth; rows = Stay }) second_east l ea)
    (along_second p s 1 b (record { columns = Forth; rows = Forth }) second_south_east l eb)
    (along_second p s 2 c (record { columns = Stay; rows = Forth }) second_south l ec)
    (along_second p s 3 d (record { columns = Back; rows = Forth }) second_south_west l ed)

-- ---- a falling ray is a rising one of the board turned

turn_four : (n ne w nw : Bool) → (w || (nw || (n || (ne || false)))) ≡ (n || (ne || (w || (nw || false))))
turn_four true true true true = refl
turn_four true true true false = refl
turn_four true true false true = refl
turn_four true true false false = refl
turn_four true false true true = refl
turn_four true false true false = refl
turn_four true false false true = refl
turn_four true false false false = refl
turn_four false true true true = refl
turn_four false true true false = refl
turn_four false true false true = refl
turn_four false true false false = refl
turn_four false false true true = refl
turn_four false false true false = refl
turn_four false false false true = refl
turn_four false false false false = refl

rising_turned : (f : Direction → Bool) → list_any (λ d. f (unturned 3 d)) rising_directions ≡ list_any f falling_directions
unfolding rising_directions falling_directions unturned has
rising_turned f =
    turn_four (f (record { columns = Stay; rows = Back })) (f (record { columns = Forth; rows = Back }))
    (f (record { columns = Back; rows = Stay })) (f (record { columns = Back; rows = Back }))

along_turned : (p : Position) (s q : ℕ) (d : Direction) → s < 64 → q < 64 → is_in (flipped_along (image 3 p) (half s) d) (half q) ≡ is_in (flipped_along p s (unturned 3 d)) q
along_turned p s q d ls lq =
    ap (λ r. is_in (flipped_along r (half s) d) (half q)) (image-moved 3 p)
    ∙ along-moved (unmap_square 3) (map_square 3) (unturned 3) (carries 3 (omega arith)) p (half s) (half q) d (half_within s ls) (half_within q lq)
    ∙ ap (λ t. is_in (flipped_along p t (unturned 3 d)) (half (half q))) (half_half s ls)
    ∙ ap (λ t. is_in (flipped_along p s (unturned 3 d)) t) (half_half q lq)

pub turned_part : (p : Position) (s w : ℕ) → s < 64 → w ≡ word_of (λ q. list_any (λ d. is_in (flipped_along (image 3 p) (half s) d) q) rising_directions)
    → half_turned w ≡ word_of (λ q. list_any (λ d. is_in (flipped_along p s d) q) falling_directions)
turned_part p s w l e =
    ap half_turned e ∙ half-word_of (λ q. list_any (λ d. is_in (flipped_along (image 3 p) (half s) d) q) rising_directions)
    ∙ word_of-same (λ q. list_any (λ d. is_in (flipped_along (image 3 p) (half s) d) (half q)) rising_directions)
    (λ q. list_any (λ d. is_in (flipped_along p s d) q) falling_directions)
    (λ q lq.
    any_same (λ d. is_in (flipped_along (image 3 p) (half s) d) (half q)) (λ d. is_in (flipped_along p s (unturned 3 d)) q) rising_directions (λ d. along_turned p s q d l lq)
    ∙ rising_turned (λ d. is_in (flipped_along p s d) q))

-- all flips, by both lanes
pub flips_of_parts : (p : Position) (s part turned : ℕ) → s < 64 → is_empty p s ≡ true →
    part ≡ word_of (λ q. list_any (λ d. is_in (flipped_along p s d) q) rising_directions) →
    turned ≡ word_of (λ q. list_any (λ d. is_in (flipped_along (image 3 p) (half s) d) q) rising_directions) →
    bit_or part (half_turned turned) ≡ word_of (is_flipped p s)
flips_of_parts p s part turned l at_s e f =
    flipped_of_empty p s (bit_or part (half_turned turned)) at_s
    (senses_word (λ d. is_in (flipped_along p s d)) part (half_turned turned) e (turned_part p s turned l f))

first_none : (a b : ℕ) → bit_or a b ≡ 0 → a ≡ 0
first_none a b e = omega (arith, le_or_l a b, e)

second_none : (a b : ℕ) → bit_or a b ≡ 0 → b ≡ 0
second_none a b e = omega (arith, le_or_r a b, e)

half_none : half_turned 0 ≡ 0
unfolding half_turned map_word word_of word_below has unmap_square turned_if
half_none = refl

-- two words, the second turned, are together empty just where both are
pub none_of_parts : (a b : ℕ) → bit_or a b ≡ 0 → bit_or a (half_turned b) ≡ 0
none_of_parts a b e = ap (λ x. bit_or x (half_turned b)) (first_none a b e) ∙ ap (bit_or 0) (ap half_turned (second_none a b e) ∙ half_none)

pub parts_of_none : (a b : ℕ) → b < 2 ^ 64 → bit_or a (half_turned b) ≡ 0 → bit_or a b ≡ 0
parts_of_none a b l e =
    ap (λ x. bit_or x b) (first_none a (half_turned b) e)
    ∙ ap (bit_or 0) (sym (half-twice b l) ∙ ap half_turned (second_none a (half_turned b) e) ∙ half_none)

-- two words, each with the other turned: twins of each other
pub twins_of_parts : (a b : ℕ) → a < 2 ^ 64 → b < 2 ^ 64 → ◌≡◌ {A = List ℕ} (bit_or a (half_turned b) ∷ bit_or b (half_turned a) ∷ []) (twin (bit_or a (half_turned b)))
twins_of_parts a b la lb =
    ap (λ x. bit_or a (half_turned b) ∷ x ∷ [])
    (or_comm b (half_turned a) ∙ ap (bit_or (half_turned a)) (sym (half-twice b lb)) ∙ sym (half-or a (half_turned b) la (half-lt b)))

-- ---- the board turned

pub half_own : (p : Position) → IsBoard p → half_turned p.own ≡ (image 3 p).own
unfolding half_turned
half_own p b = ap (λ r. r.own) (image-words p 3 b)

pub half_opp : (p : Position) → IsBoard p → half_turned p.opp ≡ (image 3 p).opp
unfolding half_turned
half_opp p b = ap (λ r. r.opp) (image-words p 3 b)

-- ---- moves

outflanks_turned : (p : Position) (s : ℕ) (d : Direction) → s < 64 → outflanks (image 3 p) (half s) d ≡ outflanks p s (unturned 3 d)
outflanks_turned p s d l =
    ap (λ r. outflanks r (half s) d) (image-moved 3 p)
    ∙ outflanks-moved (unmap_square 3) (map_square 3) (unturned 3) (carries 3 (omega arith)) p (half s) d (half_within s l)
    ∙ ap (λ t. outflanks p t (unturned 3 d)) (half_half s l)

falling_turned : (f : Direction → Bool) → list_any (λ d. f (unturned 3 d)) falling_directions ≡ list_any f rising_directions
unfolding rising_directions falling_directions unturned has
falling_turned f =
    turn_four (f (record { columns = Forth; rows = Stay })) (f (record { columns = Forth; rows = Forth }))
    (f (record { columns = Stay; rows = Forth })) (f (record { columns = Back; rows = Forth }))

empty_turned : (p : Position) (s : ℕ) → s < 64 → is_empty (image 3 p) (half s) ≡ is_empty p s
empty_turned p s l =
    ap (λ r. is_empty r (half s)) (image-moved 3 p)
    ∙ empty-moved (unmap_square 3) (map_square 3) (unturned 3) (carries 3 (omega arith)) p (half s) (half_within s l)
    ∙ ap (is_empty p) (half_half s l)

not_theirs : (p : Position) (s : ℕ) → is_empty p s ≡ true → has p.opp s ≡ false
not_theirs p s e = neither (has p.own s) (has p.opp s) (sym (is_empty-has p s) ∙ e)
  where
    neither : (x y : Bool) → not (x || y) ≡ true → y ≡ false
    neither true y n = absurd (false≢true n)
    neither false true n = absurd (false≢true n)
    neither false false n = refl

-- what a word says of the directions where numbers fall, on empty squares
abbrev pub Falling : Position → ℕ → Type 0
Falling p w = (t : ℕ) → t < 64 → has p.opp t ≡ false → has w t ≡ list_any (outflanks p t) falling_directions

when_empty : (x y z : Bool) → (z ≡ true → x ≡ y) → (x && z) ≡ (z && y)
when_empty true y true h = h refl
when_empty false y true h = h refl
when_empty true y false h = refl
when_empty false y false h = refl

or_turn : (a b : Bool) → (a || b) ≡ (b || a)
or_turn true true = refl
or_turn true false = refl
or_turn false true = refl
or_turn false false = refl

pub moves_of_parts : (p : Position) (part turned empty : ℕ) → Falling p part → Falling (image 3 p) turned → empty ≡ word_of (is_empty p) →
    bit_and (bit_or part (half_turned turned)) empty ≡ word_of (is_legal p)
moves_of_parts p part turned empty e f g =
    is_word_of (bit_and (bit_or part (half_turned turned)) empty) (is_legal p) (omega (arith, and_le_r (bit_or part (half_turned turned)) empty, g, word_of-lt (is_empty p)))
    (λ t l.
    has-and (bit_or part (half_turned turned)) empty t
    ∙ ap (λ b. has (bit_or part (half_turned turned)) t && b) (ap (λ w. has w t) g ∙ has-word_of (is_empty p) t l)
    ∙ when_empty (has (bit_or part (half_turned turned)) t) (list_any (outflanks p t) directions) (is_empty p t) (reached t l)
    ∙ sym (legal-is p t l))
  where
    reached : (t : ℕ) → t < 64 → is_empty p t ≡ true → has (bit_or part (half_turned turned)) t ≡ list_any (outflanks p t) directions
    reached t l m =
        has-or part (half_turned turned) t
        ∙ ap (λ b. b || has (half_turned turned) t) (e t l (not_theirs p t m))
        ∙ ap (λ b. list_any (outflanks p t) falling_directions || b)
        (has-half turned t l ∙ f (half t) (half_within t l) (not_theirs (image 3 p) (half t) (empty_turned p t l ∙ m))
        ∙ any_same (outflanks (image 3 p) (half t)) (λ d. outflanks p t (unturned 3 d)) falling_directions (λ d. outflanks_turned p t d l)
        ∙ falling_turned (outflanks p t))
        ∙ or_turn (list_any (outflanks p t) falling_directions) (list_any (outflanks p t) rising_directions)
        ∙ senses (outflanks p t)

no_carry : (a b : ℕ) → (bit_and a INNER + bit_and (bit_and a INNER) b) % 2 ^ 64 ≡ bit_and a INNER + bit_and (bit_and a INNER) b
no_carry a b = omega (arith, and_le_r a INNER, and_le_l (bit_and a INNER) b)

-- what is known of a word past the lines of `through`, from `source`, where each step adds `by`
abbrev pub PastLines : ℕ → ℕ → ℕ → ℕ → Type 0
PastLines by source through w = (d : Direction) → Rises d by (has through) → w ≡ word_of (is_next d (is_on_line 6 d (has source) (has through)))

pub falling_lane : (p : Position) (own opp a b c : ℕ) → IsBoard p → own ≡ p.own → opp ≡ p.opp →
    PastLines 7 own (bit_and opp INNER) a → PastLines 8 own opp b → PastLines 9 own (bit_and opp INNER) c →
    Falling p (bit_or (bit_or (bit_or ((bit_and opp INNER + bit_and (bit_and opp INNER) (own * 2 ^ 1 % 2 ^ 64)) % 2 ^ 64) a) b) c)
falling_lane p own opp a b c board e h =
    rw (e, h)
    (λ ea eb ec.
    falling_by_sum p ((bit_and p.opp INNER + bit_and (bit_and p.opp INNER) (p.own * 2 ^ 1 % 2 ^ 64)) % 2 ^ 64) a b c board (no_carry p.opp (p.own * 2 ^ 1 % 2 ^ 64)) ea eb ec)

-- ---- a move

is_twin_square : ℕ → Bool
is_twin_square s = same_line (slice_index_or TWIN_SQUARES s []) (twin (2 ^ s))

twin_squares : agree_below is_twin_square (λ _. true) 64 ≡ true
unfolding is_twin_square same_line half_turned map_word unmap_square turned_if word_of word_below has
twin_squares = refl

pub twin_square : (s : ℕ) → s < 64 → slice_index_or TWIN_SQUARES s [] ≡ twin (2 ^ s)
unfolding is_twin_square
twin_square s l = same_line-is (slice_index_or TWIN_SQUARES s []) (twin (2 ^ s)) (agree_below_at is_twin_square (λ _. true) 64 s twin_squares l)

-- one word without another, and three words together, lane by lane
pub twin_without : (a f : ℕ) → f < 2 ^ 64 → ◌≡◌ {A = List ℕ} (bit_and a (2 ^ 64 - 1 - f) ∷ bit_and (half_turned a) (2 ^ 64 - 1 - half_turned f) ∷ []) (twin (bit_and a (2 ^ 64 - 1 - f)))
twin_without a f l = ap (λ x. bit_and a (2 ^ 64 - 1 - f) ∷ x ∷ []) (sym (half-and a (2 ^ 64 - 1 - f) ∙ ap (bit_and (half_turned a)) (half-not f l)))

pub twin_with : (a f b : ℕ) → a < 2 ^ 64 → f < 2 ^ 64 → b < 2 ^ 64 →
    ◌≡◌ {A = List ℕ} (bit_or (bit_or a f) b ∷ bit_or (bit_or (half_turned a) (half_turned f)) (half_turned b) ∷ []) (twin (bit_or (bit_or a f) b))
twin_with a f b la lf lb =
    ap (λ x. bit_or (bit_or a f) b ∷ x ∷ []) (sym (half-or (bit_or a f) b (or_lt 64 a f la lf) lb ∙ ap (λ x. bit_or x (half_turned b)) (half-or a f la lf)))
