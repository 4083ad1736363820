-- The number of trailing zeros of a word is its least square.
use Rattle.std.proofs.Common.{ap, ◌∙◌}
use Rattle.oth_rules.specs.Square.{has}
use Rattle.oth_rules.proofs.Nearest.{least_square}
use Rattle.oth_rules.proofs.square.Square.first_of.Goals as goal

pub returns-clause-member : goal.returns-clause-member
returns-clause-member c = ap (has c.args.set) c.numbered.ensures ∙ (least_square c.args.set c.requires c.ranges.set.fits).0

pub returns-clause-least : goal.returns-clause-least
returns-clause-least c = λ s l. (least_square c.args.set c.requires c.ranges.set.fits).1 s (rw c.numbered.ensures at l)
