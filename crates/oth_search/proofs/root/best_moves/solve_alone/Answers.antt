use Rattle.std.proofs.Common.{rules}
use Rattle.oth_search.proofs.BoundsLemmas.Fulls.{full_minimax}
use Rattle.oth_search.proofs.root.best_moves.solve_alone.Goals as goal

pub returns-clause-full : goal.returns-clause-full
returns-clause-full c = full_minimax c.solve_without_table.result c.args.board.now c.args.scoring c.solve_without_table.ensures.board c.solve_without_table.ensures.scoring

pub returns-clause-refused : goal.returns-clause-refused
returns-clause-refused c = search rules

pub returns-then-empties-gt-MOST_EMPTIES-clause-counted : goal.returns-then-empties-gt-MOST_EMPTIES-clause-counted
returns-then-empties-gt-MOST_EMPTIES-clause-counted c = search rules
