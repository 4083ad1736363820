use Rattle.std.proofs.Common.{◌≡◌, ◌+◌, ◌*◌}
use Rattle.oth_rules.specs.Position.{empty_count}
use Rattle.oth_search.proofs.BoundsLemmas.SquareSets.{FromPlace}
use Rattle.oth_search.proofs.PvsLemmas.Withins.{WithinLoop}
use Rattle.oth_search.proofs.pvs.+window.Given as goal

abbrev pub decreases-search_window : goal.decreases-search_window
decreases-search_window g l = 3 * empty_count l.board + 1

abbrev pub decreases-search_moves : goal.decreases-search_moves
decreases-search_moves g l = 3 * empty_count l.board

abbrev pub decreases-search_child : goal.decreases-search_child
decreases-search_child g l = 3 * empty_count l.child + 2

abbrev pub invariant-search_moves-loop-square : goal.invariant-search_moves-loop-square
invariant-search_moves-loop-square g l = WithinLoop l.scoring l.board l.fn.alpha l.fn.beta (FromPlace l.square-items l.square-index) l.best × (g.C.Cells.fixed l.cells ≡ g.C.Cells.fixed l.fn.cells)
