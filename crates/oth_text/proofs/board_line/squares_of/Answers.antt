use Rattle.std.proofs.Common.{ℕ, eqb, false, cond, map, ap, ◌∙◌, arith, w8}
use Rattle.std.proofs.lemmas.Simd.{bitmask_splat, bit_mask_l}
use Rattle.std.proofs.lemmas.List.{get_or-map}
use Rattle.std.specs.Int.{bit_at}
use Rattle.oth_text.proofs.board_line.squares_of.Goals as goal

pub returns : goal.returns
returns c s h =
    let p = λ (x : ℕ). eqb x c.args.byte in
    ap (λ n. bit_at n s) (bitmask_splat w8 eqb c.args.cells 64 c.args.byte c.fits-cells.0 (omega arith)) ∙ bit_mask_l (map p c.args.cells) s
    ∙ ap (λ b. cond b 1 0) (get_or-map p c.args.cells s 0 false (omega (arith, c.fits-cells.0)))
