use Rattle.std.proofs.Common.{◌<◌, ◌^◌, ℕ, refl, arith}
use Rattle.std.specs.Prelude.{bit_or}
use Rattle.oth_rules.specs.Square.{word_of, is_in}
use Rattle.oth_rules.specs.Position.{Position}
use Rattle.oth_rules.specs.Move.{outflanked}
use Rattle.oth_rules.specs.Line.{rising}
use Rattle.oth_rules.specs.Symmetry.{image}
use Rattle.oth_rules.proofs.Words.{word_fits}
use Rattle.oth_rules.proofs.Twins.{twin_ray, first_part, second_part, flips_of_parts}
use Rattle.oth_rules.proofs.twin.Twin.risen.Goals as goal

abbrev ray_word : Position → ℕ → ℕ → ℕ → ℕ
ray_word p s i lane = word_of (is_in (outflanked p (rising (twin_ray s i lane))))

abbrev four : Position → ℕ → ℕ → ℕ
four p s lane = bit_or (bit_or (bit_or (ray_word p s 0 lane) (ray_word p s 1 lane)) (ray_word p s 2 lane)) (ray_word p s 3 lane)

second_fits : (p : Position) (s : ℕ) → s < 64 → four p s 1 < 2 ^ 64
second_fits p s l = word_fits (four p s 1) _ (second_part p s _ _ _ _ l refl refl refl refl)

pub returns-clause-fits : goal.returns-clause-fits
returns-clause-fits c =
    rw (c.outflanked.ensures, c.outflanked-2.ensures, c.outflanked-3.ensures, c.outflanked-4.ensures)
    (rw c.number.ensures.value
    (second_fits (image 3 c.args.self) c.args.square (omega (arith, c.number.ensures.below, c.number.ensures.value))))

pub returns-clause-flips : goal.returns-clause-flips
returns-clause-flips c =
    let p = c.args.self in
    let s = c.args.square in
    let l : s < 64 = omega (arith, c.number.ensures.below, c.number.ensures.value) in
    rw (c.outflanked.ensures, c.outflanked-2.ensures, c.outflanked-3.ensures, c.outflanked-4.ensures)
    (rw c.number.ensures.value
    (flips_of_parts p s (four p s 0) (four (image 3 p) s 1) l c.requires
    (first_part p s _ _ _ _ l refl refl refl refl)
    (second_part (image 3 p) s _ _ _ _ l refl refl refl refl)))
