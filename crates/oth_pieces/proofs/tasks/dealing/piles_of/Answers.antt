use Rattle.std.proofs.Common.{◌∙◌, List, sym, subst, arith}
use Rattle.std.specs.List.{All}
use Rattle.std.proofs.lemmas.List.Elements.{All-push}
use Rattle.oth_pieces.specs.Hands.{PileFits}
use Rattle.oth_pieces.specs.Settling.{Pile}
use Rattle.oth_pieces.proofs.tasks.dealing.piles_of.Goals as goal

pub loop-preserved : goal.loop-preserved
loop-preserved c =
    let e = c.push_reserved.ensures in
    let P : List Pile → Type 0 = All (PileFits c.args.tasks.now) in (
      omega arith,
      e.capacity ∙ c.loop.invariant.1,
      c.pile_of.ensures.owners,
      subst P (sym e.items) (All-push (PileFits c.args.tasks.now) c.loop.piles.items _ c.loop.invariant.3 c.in_ok-pile_of.ensures.pile),
    )
