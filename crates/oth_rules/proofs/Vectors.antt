-- What one lane of a vector of rays computes: what is outflanked along its ray.
use Rattle.std.proofs.Common.{◌≡◌, ℕ, ◌+◌, ◌-◌, ◌*◌, ◌/◌, ◌%◌, ◌^◌, ◌<◌, refl, sym, ap, ◌∙◌, inl, inr, arith}
use Rattle.std.specs.Prelude.{bit_and, bit_or, nat_lt, ◌==◌}
use Rattle.std.specs.Int.{trailing_zeros, leading_zeros, w64}
use Rattle.std.proofs.lemmas.Bool.{cases_eq, le-ltb, ne_eqb}
use Rattle.std.proofs.lemmas.Nat.{and_le_l, and_le_r, pow-add, shl-shr}
use mathlib.Core.Bool.{cond}
use lib.Lanes.{top}
use Rattle.oth_rules.specs.Square.{word_of, is_in}
use Rattle.oth_rules.specs.Position.{Position, IsBoard}
use Rattle.oth_rules.specs.Move.{outflanked}
use Rattle.oth_rules.specs.Line.{rising, falling}
use Rattle.oth_rules.proofs.Nearest.{lowest_alone, highest_alone, leading_under, outflanked_up, outflanked_down}

-- the squares of the ray that aren't theirs
abbrev pub free_word : ℕ → ℕ → ℕ
free_word ray opp = bit_and ray (2 ^ 64 - 1 - opp)

pub free_fits : (ray opp : ℕ) → free_word ray opp < 2 ^ 64
free_fits ray opp = omega (arith, and_le_r ray (2 ^ 64 - 1 - opp))

-- ---- rising rays

-- a lane less one where it isn't 0, as it is computed
abbrev lane_less_one : ℕ → ℕ
lane_less_one x = (cond (top 63 (cond (nat_lt x 1) 18446744073709551615 0)) 1 x + 18446744073709551615) % 18446744073709551616

lane_less_one-is : (x : ℕ) → x < 2 ^ 64 → lane_less_one x ≡ x - 1
lane_less_one-is x l =
    elim (cases_eq x 0) [
      | inl z ↦ rw z refl
      | inr n ↦ ap (λ b. (cond (top 63 (cond b 18446744073709551615 0)) 1 x + 18446744073709551615) % 18446744073709551616) (le-ltb x 1 (omega (arith, n)))
          ∙ omega (arith, n, l)
    ]

abbrev lowest_word : ℕ → ℕ
lowest_word free = bit_and free (2 ^ 64 - 1 - (free + 18446744073709551615) % 18446744073709551616)

lowest_word-none : (free : ℕ) → free ≡ 0 → lowest_word free ≡ 0
lowest_word-none free e = omega (arith, and_le_l free (2 ^ 64 - 1 - (free + 18446744073709551615) % 18446744073709551616), e)

lowest_word-some : (free : ℕ) → free < 2 ^ 64 → 0 < free → lowest_word free ≡ 2 ^ trailing_zeros w64 free
lowest_word-some free l h = ap (λ x. bit_and free (2 ^ 64 - 1 - x)) (below free h l) ∙ lowest_alone free h l
  where
    below : (w : ℕ) → 0 < w → w < 2 ^ 64 → (w + 18446744073709551615) % 18446744073709551616 ≡ w - 1
    below w h l = omega arith

abbrev pub up_lane : ℕ → ℕ → ℕ → ℕ
up_lane own opp ray = bit_and (lane_less_one (bit_and (lowest_word (free_word ray opp)) own)) ray

pub up_lane-is : (p : Position) (own opp ray : ℕ) → IsBoard p → own ≡ p.own → opp ≡ p.opp → ray < 2 ^ 64 → up_lane own opp ray ≡ word_of (is_in (outflanked p (rising ray)))
up_lane-is p own opp ray b e h l =
    rw (e, h)
    (ap (λ x. bit_and x ray) (lane_less_one-is (bit_and (lowest_word (free_word ray p.opp)) p.own) (omega (arith, and_le_r (lowest_word (free_word ray p.opp)) p.own, b.own_fits)))
    ∙ outflanked_up p b ray (lowest_word (free_word ray p.opp)) l (lowest_word-none (free_word ray p.opp)) (lowest_word-some (free_word ray p.opp) (free_fits ray p.opp)))

-- the same as it is computed from a comparison with 0
abbrev masked_less_one : ℕ → ℕ
masked_less_one x =
    ((x + 18446744073709551615) % 18446744073709551616 + (18446744073709551616 - cond (top 63 (cond (x == 0) 18446744073709551615 0)) 18446744073709551615 0))
    % 18446744073709551616

masked_less_one-is : (x : ℕ) → x < 2 ^ 64 → masked_less_one x ≡ x - 1
masked_less_one-is x l =
    elim (cases_eq x 0) [
      | inl z ↦ rw z refl
      | inr n ↦ ap
          (λ b. ((x + 18446744073709551615) % 18446744073709551616 + (18446744073709551616 - cond (top 63 (cond b 18446744073709551615 0)) 18446744073709551615 0)) % 18446744073709551616)
          (ne_eqb x 0 n)
          ∙ omega (arith, n, l)
    ]

abbrev pub masked_lane : ℕ → ℕ → ℕ → ℕ
masked_lane own opp ray = bit_and (masked_less_one (bit_and (lowest_word (free_word ray opp)) own)) ray

pub masked_lane-is : (p : Position) (own opp ray : ℕ) → IsBoard p → own ≡ p.own → opp ≡ p.opp → ray < 2 ^ 64 → masked_lane own opp ray ≡ word_of (is_in (outflanked p (rising ray)))
masked_lane-is p own opp ray b e h l =
    rw (e, h)
    (ap (λ x. bit_and x ray) (masked_less_one-is (bit_and (lowest_word (free_word ray p.opp)) p.own) (omega (arith, and_le_r (lowest_word (free_word ray p.opp)) p.own, b.own_fits)))
    ∙ outflanked_up p b ray (lowest_word (free_word ray p.opp)) l (lowest_word-none (free_word ray p.opp)) (lowest_word-some (free_word ray p.opp) (free_fits ray p.opp)))

-- ---- falling rays

half_power : (j c : ℕ) → j + c ≡ 63 → 2 ^ 63 / 2 ^ c ≡ 2 ^ j
half_power j c e = ap (λ n. 2 ^ n / 2 ^ c) (sym e) ∙ ap (λ x. x / 2 ^ c) (pow-add 2 j c) ∙ shl-shr (2 ^ j) c

abbrev highest_word : ℕ → ℕ
highest_word free = bit_and (2 ^ 63 / 2 ^ leading_zeros w64 (bit_or free 1)) free

highest_word-none : (free : ℕ) → free ≡ 0 → highest_word free ≡ 0
highest_word-none free e = omega (arith, and_le_r (2 ^ 63 / 2 ^ leading_zeros w64 (bit_or free 1)) free, e)

highest_word-some : (free : ℕ) → free < 2 ^ 64 → 0 < free → highest_word free ≡ 2 ^ (63 - leading_zeros w64 free)
highest_word-some free l h =
    ap (λ x. bit_and x free) (half_power (63 - leading_zeros w64 (bit_or free 1)) (leading_zeros w64 (bit_or free 1)) (omega (arith, leading_under free l)))
    ∙ highest_alone free h l

abbrev pub down_lane : ℕ → ℕ → ℕ → ℕ
down_lane own opp ray = bit_and ((0 + (18446744073709551616 - bit_and (highest_word (free_word ray opp)) own * 2 % 18446744073709551616)) % 18446744073709551616) ray

pub down_lane-is : (p : Position) (own opp ray : ℕ) → IsBoard p → own ≡ p.own → opp ≡ p.opp → ray < 2 ^ 64 → down_lane own opp ray ≡ word_of (is_in (outflanked p (falling ray)))
down_lane-is p own opp ray b e h l =
    rw (e, h)
    (ap (λ x. bit_and (x % 18446744073709551616) ray) (plus_none (18446744073709551616 - bit_and (highest_word (free_word ray p.opp)) p.own * 2 % 18446744073709551616))
    ∙ outflanked_down p b ray (highest_word (free_word ray p.opp)) l (highest_word-none (free_word ray p.opp)) (highest_word-some (free_word ray p.opp) (free_fits ray p.opp)))
  where
    plus_none : (x : ℕ) → 0 + x ≡ x
    plus_none x = omega arith
