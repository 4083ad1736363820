use Rattle.std.proofs.Common.{◌∙◌, ap}
use Rattle.oth_rules.specs.Position.{empty_count}
use Rattle.oth_rules.proofs.SearchLaws.{empty_count-pass}
use Rattle.oth_text.proofs.PairLemmas.{stays-moves, stays-over, passes_on}
use Rattle.oth_text.proofs.transcript.with_forced_pass.Goals as goal

pub returns-then-moves-ne0-clause-passed : goal.returns-then-moves-ne0-clause-passed
returns-then-moves-ne0-clause-passed c = stays-moves c.args.position _ c.moves.ensures c.if-moves-ne0.true

pub returns-then-moves-eq0-clause-passed : goal.returns-then-moves-eq0-clause-passed
returns-then-moves-eq0-clause-passed c = stays-over c.args.position _ _ _ c.moves.ensures c.if-moves-ne0.false c.pass-board.ensures c.moves-2.ensures c.if-moves-eq0.true

pub returns-clause-passed : goal.returns-clause-passed
returns-clause-passed c = passes_on c.args.position _ _ _ _ c.moves.ensures c.if-moves-ne0.false c.pass-board.ensures c.moves-2.ensures c.if-moves-eq0.false c.opponent.ensures

pub returns-clause-empties : goal.returns-clause-empties
returns-clause-empties c = ap empty_count c.pass-board.ensures ∙ empty_count-pass c.args.position.board
