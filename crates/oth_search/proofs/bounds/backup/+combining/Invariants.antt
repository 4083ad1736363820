use Rattle.std.proofs.Common.{◌≡◌, ◌+◌, ◌*◌}
use Rattle.oth_search.proofs.bounds.backup.+combining.Given as goal

abbrev pub decreases-backed_up_from : goal.decreases-backed_up_from
decreases-backed_up_from l = 2 * l.plies + 1

abbrev pub decreases-known_by_moves : goal.decreases-known_by_moves
decreases-known_by_moves l = 2 * l.plies

abbrev pub invariant-known_by_moves-loop-backed_up : goal.invariant-known_by_moves-loop-backed_up
invariant-known_by_moves-loop-backed_up l = (l.backed_up.board ≡ l.fn.board) × (l.backed_up.scoring ≡ l.scoring)

abbrev pub decreases-known_by_moves-loop-backed_up : goal.decreases-known_by_moves-loop-backed_up
decreases-known_by_moves-loop-backed_up l = l.backed_up.left
