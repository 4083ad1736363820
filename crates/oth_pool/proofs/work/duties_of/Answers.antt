use Rattle.std.proofs.Common.{◌∷◌, ◌++◌, [], map, ap, ◌∙◌, arith, length-append}
use Rattle.std.proofs.lemmas.List.{map-append}
use Rattle.oth_pool.specs.declared.work.Duty.{Duty}
use Rattle.oth_pieces.specs.declared.tasks.state.Hand.{Hand}
use Rattle.oth_pool.specs.Working.{Holds}
use Rattle.oth_pool.proofs.Workings.{All-longer, no_replies}
use Rattle.oth_pool.proofs.work.duties_of.Goals as goal

pub loop-hand-preserved : goal.loop-hand-preserved
loop-hand-preserved g c =
    let inv = c.loop-hand.invariant in
    let f : Duty g.row.C.Denot g.row.G.Denot → Hand = λ j. j.work.hand in
    let H : Duty g.row.C.Denot g.row.G.Denot → Type 0 = λ j. Holds c.args.search.now.frontier.now c.args.search.now.scoring j.work in
    let pushed = c.push_reserved.ensures in
    let one_less = c.in-Some-pop.ensures.len in (
      ap (map f) pushed.items ∙ (map-append f c.loop-hand.duties.items _ ∙ ap (λ l. l ++ c.in-Some.hand ∷ []) inv.0),
      All-longer H c.loop-hand.duties.items c.push_reserved.new.self.items _ pushed.items inv.1 (no_replies _ _ _ c.room_for-replies.ensures),
      omega (arith, length-append c.loop-hand.yielded (c.in-Some.hand ∷ [])),
      omega (arith, pushed.len, length-append c.loop-hand.yielded (c.in-Some.hand ∷ [])),
      omega (arith, pushed.capacity),
    )
