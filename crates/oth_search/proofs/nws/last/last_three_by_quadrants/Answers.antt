use Rattle.std.proofs.Common.{[]}
use Rattle.oth_search.proofs.NwsLemmas.Lasts as l
use Rattle.oth_search.proofs.nws.last.last_three_by_quadrants.Goals as goal

pub last_three-requires-clause-last : goal.last_three-requires-clause-last
last_three-requires-clause-last c = l.Leaves-third c.args.board c.args.squares.a c.args.squares.b c.args.squares.c [] c.requires.last
