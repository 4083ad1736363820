-- The eight symmetries carry steps to steps, by tables over their squares, and so keep the value.
use Rattle.std.proofs.Common.{◌≡◌, ℕ, ◌+◌, ◌<◌, Bool, not, true, false, ◌&&◌, ◌||◌, Option, Some, None, List, [], ◌∷◌, map, pos, ◌-ℤ◌, refl, sym, ap, ◌∙◌, inl, inr}
use Rattle.std.specs.Prelude.{if◌then◌else◌, ◌==◌, nat_lt, option_map}
use Rattle.std.specs.List.{list_any, list_all}
use Rattle.std.proofs.lemmas.Bool.{or_cases, and_parts, false≢true, eqb-true, ltb-true, agree_below, agree_below_at}
use Rattle.oth_rules.specs.Square.{Direction, Step, Back, Stay, Forth, next, stepped, square_at, directions, has, word_of}
use Rattle.oth_rules.specs.Move.{can_move}
use Rattle.oth_rules.specs.Position.{Position, cell, pass, position_of, mine_count, theirs_count, empty_count}
use Rattle.oth_rules.proofs.Positions.{position_of-same, cell-position_of}
use Rattle.oth_rules.specs.Score.{disc_difference, winner_score, score_of}
use Rattle.oth_rules.specs.declared.scoring.Scoring.{Scoring}
use Rattle.oth_rules.specs.declared.scoring.Scoring.TheVariants.{Winner, Discs}
use Rattle.oth_rules.specs.Value.{value, is_best}
use Rattle.oth_rules.specs.Line.{reversed_step}
use Rattle.oth_rules.specs.Symmetry.{map_word, turned_if, map_square, unmap_square, image}
use Rattle.oth_rules.proofs.Bits.{has-word_of, word_of-same}
use Rattle.oth_rules.proofs.Rays.{same_bool, or_true}
use Rattle.oth_rules.proofs.Scores.{counted_score, winner_score-is}
use Rattle.oth_rules.proofs.Carried.{Carries, moved, can_move-moved, pass-moved, mine_count-moved, theirs_count-moved, empty_count-moved, value-moved, best-moved}

any_map : {X Y : Type 0} (f : Y → Bool) (g : X → Y) (xs : List X) → list_any f (map g xs) ≡ list_any (λ x. f (g x)) xs
any_map f g [] = refl
any_map f g (x ∷ xs) = ap (λ b. f (g x) || b) (any_map f g xs)

-- the direction on the board of what is direction d on its image
unfoldable pub unturned : ℕ → Direction → Direction
unturned s d =
    let c = if has s 0 then reversed_step d.columns else d.columns in
    let r = if has s 1 then reversed_step d.rows else d.rows in
    record { columns = if has s 2 then r else c; rows = if has s 2 then c else r }

-- a test that holds at each symmetry and each square
unfoldable pub everywhere : (ℕ → ℕ → Bool) → Bool
everywhere f = agree_below (λ s. agree_below (f s) (λ _. true) 64) (λ _. true) 8

pub everywhere-at : (f : ℕ → ℕ → Bool) (s q : ℕ) → everywhere f ≡ true → s < 8 → q < 64 → f s q ≡ true
unfolding everywhere
everywhere-at f s q e ls lq =
    agree_below_at (f s) (λ _. true) 64 q (agree_below_at (λ s. agree_below (f s) (λ _. true) 64) (λ _. true) 8 s e ls) lq

same_square : Option ℕ → Option ℕ → Bool
same_square None None = true
same_square None (Some q) = false
same_square (Some q) None = false
same_square (Some q) (Some r) = q == r

same_square-true : (a b : Option ℕ) → same_square a b ≡ true → a ≡ b
unfolding same_square
same_square-true None None e = refl
same_square-true None (Some q) e = absurd (false≢true e)
same_square-true (Some q) None e = absurd (false≢true e)
same_square-true (Some q) (Some r) e = ap Some (eqb-true q r e)

step_table : (a b : Step)
    → everywhere (λ s q. same_square (option_map (unmap_square s) (next (record { columns = a; rows = b }) q)) (next (unturned s (record { columns = a; rows = b })) (unmap_square s q)))
    ≡ true
unfolding everywhere same_square unturned unmap_square turned_if next stepped square_at has
step_table Back Back = refl
step_table Back Stay = refl
step_table Back Forth = refl
step_table Stay Back = refl
step_table Stay Stay = refl
step_table Stay Forth = refl
step_table Forth Back = refl
step_table Forth Stay = refl
step_table Forth Forth = refl

within_table : everywhere (λ s q. nat_lt (unmap_square s q) 64) ≡ true
unfolding everywhere unmap_square turned_if has
within_table = refl

back_within_table : everywhere (λ s q. nat_lt (map_square s q) 64) ≡ true
unfolding everywhere map_square turned_if has
back_within_table = refl

there_table : everywhere (λ s q. unmap_square s (map_square s q) == q) ≡ true
unfolding everywhere map_square unmap_square turned_if has
there_table = refl

back_table : everywhere (λ s q. map_square s (unmap_square s q) == q) ≡ true
unfolding everywhere map_square unmap_square turned_if has
back_table = refl

-- ---- the eight directions, in another order

same_step : Step → Step → Bool
same_step Back Back = true
same_step Stay Stay = true
same_step Forth Forth = true
same_step a b = false

same_step-true : (a b : Step) → same_step a b ≡ true → a ≡ b
unfolding same_step
same_step-true Back Back e = refl
same_step-true Back Stay e = absurd (false≢true e)
same_step-true Back Forth e = absurd (false≢true e)
same_step-true Stay Back e = absurd (false≢true e)
same_step-true Stay Stay e = refl
same_step-true Stay Forth e = absurd (false≢true e)
same_step-true Forth Back e = absurd (false≢true e)
same_step-true Forth Stay e = absurd (false≢true e)
same_step-true Forth Forth e = refl

same_direction : Direction → Direction → Bool
same_direction d e = same_step d.columns e.columns && same_step d.rows e.rows

same_direction-true : (d e : Direction) → same_direction d e ≡ true → d ≡ e
unfolding same_direction
same_direction-true d e h =
    let both = and_parts (same_step d.columns e.columns) (same_step d.rows e.rows) h in
    ap (λ a. let r : Direction = record { columns = a; rows = d.rows } in r) (same_step-true d.columns e.columns both.0)
    ∙ ap (λ b. let r : Direction = record { columns = e.columns; rows = b } in r) (same_step-true d.rows e.rows both.1)

any_found : (f : Direction → Bool) (d : Direction) (ys : List Direction) → f d ≡ true → list_any (same_direction d) ys ≡ true → list_any f ys ≡ true
any_found f d [] h e = e
any_found f d (y ∷ ys) h e =
    elim (or_cases (same_direction d y) (list_any (same_direction d) ys) e) [
      | inl here ↦ ap (λ b. b || list_any f ys) (ap f (sym (same_direction-true d y here)) ∙ h)
      | inr later ↦ or_true (f y) (list_any f ys) (any_found f d ys h later)
    ]

any_among : (f : Direction → Bool) (xs ys : List Direction) → list_all (λ x. list_any (same_direction x) ys) xs ≡ true → list_any f xs ≡ true → list_any f ys ≡ true
any_among f [] ys t e = absurd (false≢true e)
any_among f (x ∷ xs) ys t e =
    let both = and_parts (list_any (same_direction x) ys) (list_all (λ x. list_any (same_direction x) ys) xs) t in
    elim (or_cases (f x) (list_any f xs) e) [
      | inl here ↦ any_found f x ys here both.0
      | inr later ↦ any_among f xs ys both.1 later
    ]

all_table : agree_below
    (λ s.
    list_all (λ x. list_any (same_direction x) directions) (map (unturned s) directions) && list_all (λ x. list_any (same_direction x) (map (unturned s) directions)) directions)
    (λ _. true) 8
    ≡ true
unfolding directions unturned same_direction same_step has
all_table = refl

all_turned : (s : ℕ) → s < 8 → (f : Direction → Bool) → list_any (λ d. f (unturned s d)) directions ≡ list_any f directions
all_turned s l f =
    let t =
    agree_below_at
    (λ s.
    list_all (λ x. list_any (same_direction x) directions) (map (unturned s) directions)
    && list_all (λ x. list_any (same_direction x) (map (unturned s) directions)) directions)
    (λ _. true) 8 s all_table l in
    let both =
    and_parts (list_all (λ x. list_any (same_direction x) directions) (map (unturned s) directions))
    (list_all (λ x. list_any (same_direction x) (map (unturned s) directions)) directions)
    t in
    sym (any_map f (unturned s) directions)
    ∙ same_bool (list_any f (map (unturned s) directions)) (list_any f directions)
    (any_among f (map (unturned s) directions) directions both.0)
    (any_among f directions (map (unturned s) directions) both.1)

pub carries : (s : ℕ) → s < 8 → Carries (unmap_square s) (map_square s) (unturned s)
carries s l = record {
  within = λ q h. ltb-true (unmap_square s q) 64 (everywhere-at (λ s q. nat_lt (unmap_square s q) 64) s q within_table l h);
  back_within = λ q h. ltb-true (map_square s q) 64 (everywhere-at (λ s q. nat_lt (map_square s q) 64) s q back_within_table l h);
  there = λ q h. eqb-true (unmap_square s (map_square s q)) q (everywhere-at (λ s q. unmap_square s (map_square s q) == q) s q there_table l h);
  back = λ q h. eqb-true (map_square s (unmap_square s q)) q (everywhere-at (λ s q. map_square s (unmap_square s q) == q) s q back_table l h);
  steps = λ d q h. same_square-true (option_map (unmap_square s) (next d q)) (next (unturned s d) (unmap_square s q))
      (everywhere-at (λ s q. same_square (option_map (unmap_square s) (next d q)) (next (unturned s d) (unmap_square s q))) s q (step_table d.columns d.rows) l h);
  all = all_turned s l;
}

-- ---- the laws

pub image-moved : (s : ℕ) (p : Position) → image s p ≡ moved (unmap_square s) p
unfolding image moved
image-moved s p = refl

winner-moved : (s : ℕ) → s < 8 → (p : Position) → winner_score (moved (unmap_square s) p) ≡ winner_score p
winner-moved s l p =
    let π = unmap_square s in
    let ρ = map_square s in
    let D = unturned s in
    let k = carries s l in
    winner_score-is (moved π p)
    ∙ ap (λ m. counted_score (pos m -ℤ pos (theirs_count (moved π p))) (pos (empty_count (moved π p)))) (mine_count-moved π ρ D k p)
    ∙ ap (λ t. counted_score (pos (mine_count p) -ℤ pos t) (pos (empty_count (moved π p)))) (theirs_count-moved π ρ D k p)
    ∙ ap (λ e. counted_score (pos (mine_count p) -ℤ pos (theirs_count p)) (pos e)) (empty_count-moved π ρ D k p)
    ∙ sym (winner_score-is p)

discs-moved : (s : ℕ) → s < 8 → (p : Position) → disc_difference (moved (unmap_square s) p) ≡ disc_difference p
unfolding disc_difference
discs-moved s l p =
    let π = unmap_square s in
    let k = carries s l in
    ap (λ m. pos m -ℤ pos (theirs_count (moved π p))) (mine_count-moved π (map_square s) (unturned s) k p)
    ∙ ap (λ t. pos (mine_count p) -ℤ pos t) (theirs_count-moved π (map_square s) (unturned s) k p)

score-moved : (g : Scoring) (s : ℕ) → s < 8 → (p : Position) → score_of g (moved (unmap_square s) p) ≡ score_of g p
unfolding score_of
score-moved Winner s l p = winner-moved s l p
score-moved Discs s l p = discs-moved s l p

-- the value of the image is the value
pub value-image : (g : Scoring) (s : ℕ) → s < 8 → (p : Position) → value (score_of g) (image s p) ≡ value (score_of g) p
value-image g s l p = ap (value (score_of g)) (image-moved s p) ∙ value-moved (unmap_square s) (map_square s) (unturned s) (carries s l) (score_of g) (score-moved g s l) p

-- the best moves of the image are the image of the best moves
pub best-image : (g : Scoring) (s : ℕ) → s < 8 → (p : Position) (q : ℕ) → q < 64 → is_best (score_of g) (image s p) q ≡ is_best (score_of g) p (unmap_square s q)
best-image g s l p q h = ap (λ r. is_best (score_of g) r q) (image-moved s p) ∙ best-moved (unmap_square s) (map_square s) (unturned s) (carries s l) (score_of g) (score-moved g s l) p q h

pub best-image-word : (g : Scoring) (s : ℕ) → s < 8 → (p : Position) → word_of (is_best (score_of g) (image s p)) ≡ map_word s (word_of (is_best (score_of g) p))
unfolding map_word
best-image-word g s l p =
    word_of-same (is_best (score_of g) (image s p)) (λ q. has (word_of (is_best (score_of g) p)) (unmap_square s q))
    (λ q lq. best-image g s l p q lq ∙ sym (has-word_of (is_best (score_of g) p) (unmap_square s q) (carried.within q lq)))
  where
    carried : Carries (unmap_square s) (map_square s) (unturned s)
    carried = carries s l

-- ---- one symmetry after another

unfoldable pub bit_if : Bool → ℕ → ℕ
bit_if b n = if b then n else 0

unfoldable pub differ : Bool → Bool → Bool
differ a b = if a then not b else b

-- the symmetry that carries as t does and then s
unfoldable pub composed : ℕ → ℕ → ℕ
composed s t =
    bit_if (differ (has s 0) (if has s 2 then has t 1 else has t 0)) 1
    + bit_if (differ (has s 1) (if has s 2 then has t 0 else has t 1)) 2
    + bit_if (differ (has s 2) (has t 2)) 4

composed_table : agree_below (λ s. everywhere (λ t q. unmap_square t (unmap_square s q) == unmap_square (composed s t) q)) (λ _. true) 8 ≡ true
unfolding everywhere unmap_square turned_if has composed bit_if differ
composed_table = refl

composed_within_table : agree_below (λ s. agree_below (λ t. nat_lt (composed s t) 8) (λ _. true) 8) (λ _. true) 8 ≡ true
unfolding has composed bit_if differ
composed_within_table = refl

first_table : agree_below (λ t. composed 0 t == t) (λ _. true) 8 ≡ true
unfolding has composed bit_if differ
first_table = refl

pub composed-within : (s t : ℕ) → s < 8 → t < 8 → composed s t < 8
composed-within s t l h =
    ltb-true (composed s t) 8
    (agree_below_at (λ t. nat_lt (composed s t) 8) (λ _. true) 8 t
    (agree_below_at (λ s. agree_below (λ t. nat_lt (composed s t) 8) (λ _. true) 8) (λ _. true) 8 s composed_within_table l)
    h)

pub composed-first : (t : ℕ) → t < 8 → composed 0 t ≡ t
composed-first t h = eqb-true (composed 0 t) t (agree_below_at (λ t. composed 0 t == t) (λ _. true) 8 t first_table h)

pub image-image : (s t : ℕ) (p : Position) → s < 8 → t < 8 → image s (image t p) ≡ image (composed s t) p
unfolding image
image-image s t p l h =
    position_of-same (λ q. cell (position_of (λ r. cell p (unmap_square t r))) (unmap_square s q)) (λ q. cell p (unmap_square (composed s t) q))
    (λ q lq.
    cell-position_of (λ r. cell p (unmap_square t r)) (unmap_square s q) (unmap-within s q l lq)
    ∙ ap (cell p) (eqb-true (unmap_square t (unmap_square s q)) (unmap_square (composed s t) q)
    (everywhere-at (λ t q. unmap_square t (unmap_square s q) == unmap_square (composed s t) q) t q
    (agree_below_at (λ s. everywhere (λ t q. unmap_square t (unmap_square s q) == unmap_square (composed s t) q)) (λ _. true) 8 s composed_table l) h lq)))
  where
    unmap-within : (s q : ℕ) → s < 8 → q < 64 → unmap_square s q < 64
    unmap-within s q ls lq = (carries s ls).within q lq

pub can_move-image : (s : ℕ) → s < 8 → (p : Position) → can_move (image s p) ≡ can_move p
can_move-image s l p = ap can_move (image-moved s p) ∙ can_move-moved (unmap_square s) (map_square s) (unturned s) (carries s l) p

pub pass-image : (s : ℕ) → s < 8 → (p : Position) → pass (image s p) ≡ image s (pass p)
pass-image s l p = ap pass (image-moved s p) ∙ pass-moved (unmap_square s) (map_square s) (unturned s) (carries s l) p ∙ sym (image-moved s (pass p))
