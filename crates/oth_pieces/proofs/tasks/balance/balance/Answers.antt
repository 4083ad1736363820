use Rattle.std.proofs.Common.{◌≡◌, [], ◌∷◌, ◌++◌, sym, ◌∙◌, vec_len}
use Rattle.oth_pieces.proofs.Settlings.{settling_steps, settling_ends}
use Rattle.oth_pieces.proofs.tasks.balance.balance.Goals as goal

pub loop-owner-preserved : goal.loop-owner-preserved
loop-owner-preserved c =
    let is : c.loop-owner.owners.items ≡ c.pop.new.self.items ++ c.in-Some.owner ∷ [] = c.in-Some.ensures.items in
    settling_steps (vec_len c.args.owners) c.args.owners.items c.args.piles.now c.loop-owner.owners.items c.loop-owner.piles c.pop.new.self.items c.in-Some.owner
    c.collect_passes.new.owner c.collect_passes.new.piles
    c.loop-owner.invariant is c.collect_passes.ensures.put c.collect_passes.ensures.fair c.collect_passes.ensures.sum c.collect_passes.ensures.shorter

pub returns : goal.returns
returns c =
    let size = c.loop-owner.owners.ok.0 in
    let none = c.in_default.ensures.cases in
    settling_ends (vec_len c.args.owners) c.args.owners.items c.args.piles.now c.loop-owner.owners.items c.loop-owner.piles (sym size ∙ none.0) c.loop-owner.invariant
