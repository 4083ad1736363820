use Rattle.std.proofs.Common.{◌≡◌, rules, arith, ap, sym, ◌∙◌, subst, ℤ, pos, ◌-ℤ◌, ◌≤ℤ◌}
use Rattle.std.proofs.lemmas.Int.{ints}
use Rattle.oth_pieces.specs.declared.floor.root.Root.{Root}
use Rattle.oth_pieces.specs.History.{root_value}
use Rattle.oth_pieces.specs.Watch.{Place}
use Rattle.oth_pieces.proofs.Floors.{raises}
use Rattle.oth_pieces.proofs.floor.Floor.raise_to.Goals as goal

pub fetch_max-requires : goal.fetch_max-requires
fetch_max-requires c =
    let root : c.args.self.now.root ≡ c.self.inside.table.shared.key = sym (ap (λ (f : Place). f.root) c.self.view_is) ∙ sym c.self.invariant.1 in
    let h : ℤ = pos c.height_of-height.result -ℤ pos 64 in
    let Below : Root → Type 0 = λ p. h ≤ℤ root_value p in
    let below : h ≤ℤ root_value c.args.self.now.root = omega (arith, ints) in
    (search rules, search rules, raises _ _ _ _ _ _ c.seat.invariant.0 c.height_of-height.ensures.bound (subst Below root below))
