-- Entries: their bounds, their words, and what a cell keeps of two.
use Rattle.std.proofs.Common.{◌≡◌, ℕ, ◌/◌, ◌%◌, ◌<◌, ◌≤◌, true, false, cond, List, ℤ, pos, negsuc, ◌-ℤ◌, ◌≤ℤ◌, refl, sym, ap, ◌∙◌, subst, arith, w8, to_z, of_z, Some}
use Rattle.std.specs.Prelude.{bit_and, ◌==◌, ◌&&◌, if◌then◌else◌, slice_index_or, int_lt}
use Rattle.std.specs.Int.{int_max, int_min}
use Rattle.std.proofs.lemmas.Int.{ints}
use Rattle.std.proofs.lemmas.Bool.{eq-eqb}
use Rattle.oth_rules.specs.declared.scoring.Scoring.{Scoring}
use Rattle.oth_rules.specs.Position.{Position, IsBoard}
use Rattle.oth_rules.specs.Score.{score_of}
use Rattle.oth_rules.specs.Value.{value}
use Rattle.oth_rules.specs.Laws.{IsScore}
use Rattle.oth_rules.specs.Symmetry.{canonical}
use Rattle.oth_rules.proofs.Canonical.{IsBoard-canonical}
use Rattle.oth_rules.proofs.Scores.{kept}
use Rattle.oth_rules.proofs.Values.{int_max-keeps}
use Rattle.oth_search.specs.Bounds.Interval.{IsInterval, Encloses}
use Rattle.oth_search.specs.Bounds.Entry.{Bounded, IsTrueEntry, packed, words_of, narrowed, joined}
use Rattle.oth_search.proofs.BoundsLemmas.Enclosing.{Encloses-canonical, IsCanonical-canonical}

pub IsBoard-entry : (x : Bounded) → IsTrueEntry x → IsBoard x.board
IsBoard-entry x t = subst IsBoard t.canonical.least (IsBoard-canonical x.board)

pub IsTrueEntry-of : (g : Scoring) (p q : Position) (lower upper l u : ℤ) → q ≡ canonical p → IsInterval lower upper → Encloses lower upper (value (score_of g) p) → l ≡ lower
    → u ≡ upper → IsTrueEntry (record { board = q; scoring = g; lower = l; upper = u })
IsTrueEntry-of g p q lower upper l u e i h f k = record {
  canonical = IsCanonical-canonical p q e;
  bounds = rw (f, k) i;
  encloses = rw (f, k) (Encloses-canonical g p q lower upper e h);
}

-- ---- the words

pub word_own : (x : Bounded) (ws : List ℕ) → ws ≡ words_of x → slice_index_or ws 0 0 ≡ x.board.own
word_own x ws e = ap (λ (w : List ℕ). slice_index_or w 0 0) e

pub word_opp : (x : Bounded) (ws : List ℕ) → ws ≡ words_of x → slice_index_or ws 1 0 ≡ x.board.opp
word_opp x ws e = ap (λ (w : List ℕ). slice_index_or w 1 0) e

pub word_bounds : (x : Bounded) (ws : List ℕ) → ws ≡ words_of x → slice_index_or ws 2 0 ≡ packed x.lower x.upper
word_bounds x ws e = ap (λ (w : List ℕ). slice_index_or w 2 0) e

-- the board words of a true entry share no square
pub apart_words : (x : Bounded) (a b : ℕ) → IsTrueEntry x → a ≡ x.board.own → b ≡ x.board.opp → 0 < bit_and a b → ⊥
apart_words x a b t e f h =
    let none = (IsBoard-entry x t).apart in
    let some : 0 < bit_and x.board.own x.board.opp = rw (e, f) at h in
    omega (arith, none, some)

pub raised_low : (l u : ℤ) (b : ℕ) → IsInterval l u → b ≡ packed l u → b % 256 ≤ 128
raised_low l u b i e = omega (arith, ints, i.low, i.ordered, i.high)

pub raised_high : (l u : ℤ) (b : ℕ) → IsInterval l u → b ≡ packed l u → b / 256 ≤ 128
raised_high l u b i e = omega (arith, ints, i.low, i.ordered, i.high)

pub unpacked_low : (l u z : ℤ) (b : ℕ) → IsInterval l u → b ≡ packed l u → z ≡ pos (b % 256) -ℤ pos 64 → to_z w8 (of_z w8 z) ≡ l
unpacked_low l u z b i e f = omega (arith, ints, i.low, i.ordered, i.high)

pub unpacked_high : (l u z : ℤ) (b : ℕ) → IsInterval l u → b ≡ packed l u → z ≡ pos (b / 256) -ℤ pos 64 → to_z w8 (of_z w8 z) ≡ u
unpacked_high l u z b i e f = omega (arith, ints, i.low, i.ordered, i.high)

-- an entry by its parts
pub same_entry : (x y : Bounded) → x.board ≡ y.board → x.scoring ≡ y.scoring → x.lower ≡ y.lower → x.upper ≡ y.upper → x ≡ y
same_entry x y e f l u =
    ap (λ b. let r : Bounded = record { board = b; scoring = x.scoring; lower = x.lower; upper = x.upper } in r) e
    ∙ ap (λ g. let r : Bounded = record { board = y.board; scoring = g; lower = x.lower; upper = x.upper } in r) f
    ∙ ap (λ z. let r : Bounded = record { board = y.board; scoring = y.scoring; lower = z; upper = x.upper } in r) l
    ∙ ap (λ z. let r : Bounded = record { board = y.board; scoring = y.scoring; lower = y.lower; upper = z } in r) u

pub same_board_words : (p q : Position) → p.own ≡ q.own → p.opp ≡ q.opp → p ≡ q
same_board_words p q e f =
    ap (λ w. let r : Position = record { own = w; opp = p.opp } in r) e ∙ ap (λ w. let r : Position = record { own = q.own; opp = w } in r) f

-- ---- two entries of one board

int_min-keeps : (P : ℤ → Type 0) (x y : ℤ) → P x → P y → P (int_min x y)
int_min-keeps P x y h k = elim (int_lt y x) as (λ b. P (cond b y x)) [ true ↦ k | false ↦ h ]

IsScore-lower : (l u : ℤ) → IsInterval l u → IsScore l
IsScore-lower l u i = record { low = i.low; high = omega (arith, ints, i.ordered, i.high) }

IsScore-upper : (l u : ℤ) → IsInterval l u → IsScore u
IsScore-upper l u i = record { low = omega (arith, ints, i.ordered, i.low); high = i.high }

max_computed : (a b m : ℤ) → IsScore a → IsScore b → m ≡ int_max (to_z w8 (of_z w8 a)) (to_z w8 (of_z w8 b)) → to_z w8 (of_z w8 m) ≡ int_max a b
max_computed a b m h k e =
    let f = e ∙ ap (λ x. int_max x (to_z w8 (of_z w8 b))) (kept a h) ∙ ap (int_max a) (kept b k) in
    kept m (subst IsScore (sym f) (int_max-keeps IsScore a b h k)) ∙ f

min_computed : (a b m : ℤ) → IsScore a → IsScore b → m ≡ int_min (to_z w8 (of_z w8 a)) (to_z w8 (of_z w8 b)) → to_z w8 (of_z w8 m) ≡ int_min a b
min_computed a b m h k e =
    let f = e ∙ ap (λ x. int_min x (to_z w8 (of_z w8 b))) (kept a h) ∙ ap (int_min a) (kept b k) in
    kept m (subst IsScore (sym f) (int_min-keeps IsScore a b h k)) ∙ f

-- the bounds that the code computes
pub closer_bounds : (x y : Bounded) (m n : ℤ) → IsTrueEntry x → IsTrueEntry y → m ≡ int_max (to_z w8 (of_z w8 x.lower)) (to_z w8 (of_z w8 y.lower))
    → n ≡ int_min (to_z w8 (of_z w8 x.upper)) (to_z w8 (of_z w8 y.upper)) →
    ◌≡◌ {A = Bounded} (record { board = y.board; scoring = y.scoring; lower = to_z w8 (of_z w8 m); upper = to_z w8 (of_z w8 n) }) (narrowed x y)
closer_bounds x y m n t u e f =
    same_entry (record { board = y.board; scoring = y.scoring; lower = to_z w8 (of_z w8 m); upper = to_z w8 (of_z w8 n) }) (narrowed x y) refl refl
    (max_computed x.lower y.lower m (IsScore-lower x.lower x.upper t.bounds) (IsScore-lower y.lower y.upper u.bounds) e)
    (min_computed x.upper y.upper n (IsScore-upper x.lower x.upper t.bounds) (IsScore-upper y.lower y.upper u.bounds) f)

same_value : (x y : Bounded) → x.board ≡ y.board → x.scoring ≡ y.scoring → value (score_of x.scoring) x.board ≡ value (score_of y.scoring) y.board
same_value x y e f = rw (e, f) refl

ordered_by : (a b v : ℤ) → a ≤ℤ v → v ≤ℤ b → a ≤ℤ b
ordered_by a b v h k = omega (arith, ints)

pub IsTrueEntry-narrowed : (x y : Bounded) → IsTrueEntry x → IsTrueEntry y → x.board ≡ y.board → x.scoring ≡ y.scoring → IsTrueEntry (narrowed x y)
IsTrueEntry-narrowed x y t u e f =
    let v = value (score_of y.scoring) y.board in
    let h : Encloses x.lower x.upper v = subst (Encloses x.lower x.upper) (same_value x y e f) t.encloses in
    let below = int_max-keeps (λ z. z ≤ℤ v) x.lower y.lower h.below u.encloses.below in
    let above = int_min-keeps (λ z. v ≤ℤ z) x.upper y.upper h.above u.encloses.above in
    record {
      canonical = u.canonical;
      bounds = record {
        low = int_max-keeps (λ z. negsuc 63 ≤ℤ z) x.lower y.lower t.bounds.low u.bounds.low;
        ordered = ordered_by (int_max x.lower y.lower) (int_min x.upper y.upper) v below above;
        high = int_min-keeps (λ z. z ≤ℤ pos 64) x.upper y.upper t.bounds.high u.bounds.high;
      };
      encloses = record { below = below; above = above };
    }

pub joined_same : (x y : Bounded) → x.board.own ≡ y.board.own → x.board.opp ≡ y.board.opp → narrowed x y ≡ joined (Some x) y
joined_same x y e f =
    sym (ap (λ b. if (b && (x.board.opp == y.board.opp)) then narrowed x y else y) (eq-eqb x.board.own y.board.own e)
    ∙ ap (λ b. if b then narrowed x y else y) (eq-eqb x.board.opp y.board.opp f))

-- what the code makes of the words of x is x
pub of_words_is : (x : Bounded) (ws : List ℕ) (p : Position) (g : Scoring) (l u : ℤ) → IsTrueEntry x → x.scoring ≡ g → ws ≡ words_of x →
    p ≡ record { own = slice_index_or ws 0 0; opp = slice_index_or ws 1 0 } → l ≡ pos (slice_index_or ws 2 0 % 256) -ℤ pos 64 → u ≡ pos (slice_index_or ws 2 0 / 256) -ℤ pos 64 →
    ◌≡◌ {A = Bounded} (record { board = p; scoring = g; lower = to_z w8 (of_z w8 l); upper = to_z w8 (of_z w8 u) }) x
of_words_is x ws p g l u t s e b f k =
    same_entry (record { board = p; scoring = g; lower = to_z w8 (of_z w8 l); upper = to_z w8 (of_z w8 u) }) x
    (b ∙ same_board_words (record { own = slice_index_or ws 0 0; opp = slice_index_or ws 1 0 }) x.board (word_own x ws e) (word_opp x ws e))
    (sym s)
    (unpacked_low x.lower x.upper l (slice_index_or ws 2 0) t.bounds (word_bounds x ws e) f)
    (unpacked_high x.lower x.upper u (slice_index_or ws 2 0) t.bounds (word_bounds x ws e) k)
