use Rattle.std.proofs.Common.{rules, arith, ◌∙◌, sym, ◌≡◌, ◌≤ℤ◌, ℤ, pos, ◌-ℤ◌, subst}
use Rattle.std.proofs.lemmas.Int.{ints}
use Rattle.oth_pieces.specs.declared.floor.root.Root.{Root}
use Rattle.oth_walk.specs.MoveBounds.{limit}
use Rattle.oth_walk.proofs.Truths.{raises}
use Rattle.oth_walk.proofs.move_bounds.BoundWords.raise.Goals as goal

pub fetch_max-requires : goal.fetch_max-requires
fetch_max-requires c =
    let root : c.args.self.now.bounds.now.root ≡ c.args.self.now.bounds.now.table.shared.key = sym c.args.self.now.bounds.now.key in
    let h : ℤ = pos c.height_of-height.result -ℤ pos 64 in
    let below : h ≤ℤ limit c.args.self.now.bounds.now.root c.args.word = omega (arith, ints) in
    (search rules, search rules, raises _ _ _ _ _ _ _ (c.args.self.now.sits.1 ∙ root) (subst (λ (r : Root). h ≤ℤ limit r c.args.word) root below))
