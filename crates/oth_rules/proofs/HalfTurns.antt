-- Words and positions turned by half a turn.
use Rattle.std.proofs.Common.{◌≡◌, ℕ, zero, suc, ◌-◌, ◌^◌, ◌<◌, Bool, true, false, not, ◌&&◌, ◌||◌, List, [], ◌∷◌, ◌++◌, length, map, Fits, w64, refl, sym, ap, ◌∙◌, arith}
use lib.Lanes.{Each1}
use Rattle.std.specs.Prelude.{bit_and, bit_or, slice_index_or}
use Rattle.std.proofs.lemmas.Nat.{and_le_l, or_lt}
use Rattle.oth_rules.specs.Square.{has, word_of}
use Rattle.oth_rules.specs.Symmetry.{map_word, unmap_word, map_square, unmap_square, turned_if}
use Rattle.oth_rules.specs.Exchange.{exchanged_square, transposed_square}
use Rattle.oth_rules.specs.HalfTurn.{half_turned}
use Rattle.oth_rules.proofs.Bits.{has-and, has-or, has-not, has-word_of, is_word_of, word_of-lt, same_word}
use Rattle.oth_rules.proofs.Symmetries.{carries}
use Rattle.oth_rules.proofs.Exchanges.{unmap_map, map_is, kept_if, mirrored_word, flipped_word}

-- where half a turn carries a square
abbrev pub half : ℕ → ℕ
half q = unmap_square 3 q

pub half_within : (q : ℕ) → q < 64 → half q < 64
half_within q l = (carries 3 (omega arith)).within q l

pub half_half : (q : ℕ) → q < 64 → half (half q) ≡ q
unfolding unmap_square map_square turned_if has
half_half q l = (carries 3 (omega arith)).there q l

pub half-lt : (w : ℕ) → half_turned w < 2 ^ 64
unfolding half_turned map_word
half-lt w = word_of-lt (λ q. has w (half q))

pub has-half : (w q : ℕ) → q < 64 → has (half_turned w) q ≡ has w (half q)
unfolding half_turned map_word
has-half w q l = has-word_of (λ q. has w (half q)) q l

pub half-word_of : (set : ℕ → Bool) → half_turned (word_of set) ≡ word_of (λ q. set (half q))
half-word_of set =
    is_word_of (half_turned (word_of set)) (λ q. set (half q)) (half-lt (word_of set))
    (λ q l. has-half (word_of set) q l ∙ has-word_of set (half q) (half_within q l))

pub half-twice : (w : ℕ) → w < 2 ^ 64 → half_turned (half_turned w) ≡ w
unfolding half_turned map_word unmap_word unmap_square map_square turned_if has
half-twice w l = unmap_map 3 w (omega arith) l

pub half-or : (a b : ℕ) → a < 2 ^ 64 → b < 2 ^ 64 → half_turned (bit_or a b) ≡ bit_or (half_turned a) (half_turned b)
half-or a b la lb =
    same_word (half_turned (bit_or a b)) (bit_or (half_turned a) (half_turned b)) (half-lt (bit_or a b)) (or_lt 64 (half_turned a) (half_turned b) (half-lt a) (half-lt b))
    (λ q l.
    has-half (bit_or a b) q l ∙ has-or a b (half q) ∙ ap (λ x. x || has b (half q)) (sym (has-half a q l)) ∙ ap (λ x. has (half_turned a) q || x) (sym (has-half b q l))
    ∙ sym (has-or (half_turned a) (half_turned b) q))

pub half-and : (a b : ℕ) → half_turned (bit_and a b) ≡ bit_and (half_turned a) (half_turned b)
half-and a b =
    same_word (half_turned (bit_and a b)) (bit_and (half_turned a) (half_turned b)) (half-lt (bit_and a b)) (omega (arith, and_le_l (half_turned a) (half_turned b), half-lt a))
    (λ q l.
    has-half (bit_and a b) q l ∙ has-and a b (half q) ∙ ap (λ x. x && has b (half q)) (sym (has-half a q l)) ∙ ap (λ x. has (half_turned a) q && x) (sym (has-half b q l))
    ∙ sym (has-and (half_turned a) (half_turned b) q))

pub half-not : (a : ℕ) → a < 2 ^ 64 → half_turned (2 ^ 64 - 1 - a) ≡ 2 ^ 64 - 1 - half_turned a
half-not a la =
    same_word (half_turned (2 ^ 64 - 1 - a)) (2 ^ 64 - 1 - half_turned a) (half-lt (2 ^ 64 - 1 - a)) (omega arith)
    (λ q l.
    has-half (2 ^ 64 - 1 - a) q l ∙ has-not a (half q) la (half_within q l) ∙ ap not (sym (has-half a q l))
    ∙ sym (has-not (half_turned a) q (half-lt a) l))

-- ---- two lanes

pub record TwoLanes (lanes : List ℕ) : Type 0 where
  pub first : ℕ
  pub second : ℕ
  pub first_fits : first < 2 ^ 64
  pub second_fits : second < 2 ^ 64
  pub are : lanes ≡ first ∷ second ∷ []

pub two_lanes : (lanes : List ℕ) → length lanes ≡ 2 → Each1 (Fits w64) lanes → TwoLanes lanes
two_lanes [] e f = absurd (omega (arith, e))
two_lanes (x ∷ []) e f = absurd (omega (arith, e))
two_lanes (x ∷ y ∷ []) e f = record { first = x; second = y; first_fits = f.0.fits; second_fits = f.1.0.fits; are = refl }
two_lanes (x ∷ y ∷ z ∷ zs) e f = absurd (omega (arith, e))

pub same_lanes : (a b c d : ℕ) → a ≡ c → b ≡ d → ◌≡◌ {A = List ℕ} (a ∷ b ∷ []) (c ∷ d ∷ [])
same_lanes a b c d e f = ap (λ x. x ∷ b ∷ []) e ∙ ap (λ y. c ∷ y ∷ []) f

pub each_lane : (P : ℕ → Type 0) → P 0 → P 1 → (i : ℕ) → i < 2 → P i
each_lane P a b zero l = a
each_lane P a b (suc zero) l = b
each_lane P a b (suc (suc n)) l = absurd (omega (arith, l))

-- a list of two, by its lanes
pub lanes_of : (lanes : List ℕ) → length lanes ≡ 2 → lanes ≡ slice_index_or lanes 0 0 ∷ slice_index_or lanes 1 0 ∷ []
lanes_of [] e = absurd (omega (arith, e))
lanes_of (x ∷ []) e = absurd (omega (arith, e))
lanes_of (x ∷ y ∷ []) e = refl
lanes_of (x ∷ y ∷ z ∷ zs) e = absurd (omega (arith, e))

-- ---- half a turn by exchanges: the columns turned round, then the rows

abbrev pub exchange : ℕ → ℕ → ℕ → ℕ
exchange mask shift w = word_of (λ q. has w (exchanged_square mask shift q))

abbrev by_columns : ℕ → ℕ
by_columns w = exchange 0x0f0f_0f0f_0f0f_0f0f 4 (exchange 0x3333_3333_3333_3333 2 (exchange 0x5555_5555_5555_5555 1 w))

abbrev by_rows : ℕ → ℕ
by_rows w = exchange 0x0000_0000_ffff_ffff 32 (exchange 0x0000_ffff_0000_ffff 16 (exchange 0x00ff_00ff_00ff_00ff 8 w))

half_by_exchanges : (w : ℕ) → w < 2 ^ 64 → by_rows (by_columns w) ≡ half_turned w
unfolding half_turned has
half_by_exchanges w l =
    map_is 3 w w (by_columns w) (by_rows (by_columns w)) false true true (omega arith) refl refl refl
    (kept_if w false transposed_square refl l)
    (mirrored_word w (exchange 0x5555_5555_5555_5555 1 w) (exchange 0x3333_3333_3333_3333 2 (exchange 0x5555_5555_5555_5555 1 w)) (by_columns w) refl refl refl)
    (flipped_word (by_columns w) (exchange 0x00ff_00ff_00ff_00ff 8 (by_columns w)) (exchange 0x0000_ffff_0000_ffff 16 (exchange 0x00ff_00ff_00ff_00ff 8 (by_columns w)))
    (by_rows (by_columns w)) refl refl refl)

pub turned_lanes : (words a b c d e r : List ℕ) → length words ≡ 2 → Each1 (Fits w64) words → a ≡ map (exchange 0x5555_5555_5555_5555 1) words
    → b ≡ map (exchange 0x3333_3333_3333_3333 2) a → c ≡ map (exchange 0x0f0f_0f0f_0f0f_0f0f 4) b → d ≡ map (exchange 0x00ff_00ff_00ff_00ff 8) c
    → e ≡ map (exchange 0x0000_ffff_0000_ffff 16) d → r ≡ map (exchange 0x0000_0000_ffff_ffff 32) e
    → ◌≡◌ {A = List ℕ} (slice_index_or (r ++ r) 1 0 ∷ slice_index_or (r ++ r) 0 0 ∷ []) (half_turned (slice_index_or words 1 0) ∷ half_turned (slice_index_or words 0 0) ∷ [])
turned_lanes words a b c d e r two fits ea eb ec ed ee er =
    let w = two_lanes words two fits in
    rw (er, ee, ed, ec, eb, ea, w.are)
    (same_lanes _ _ _ _ (half_by_exchanges w.second w.second_fits) (half_by_exchanges w.first w.first_fits))
