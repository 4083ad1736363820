use Rattle.std.proofs.Common.{◌≡◌}
use Rattle.oth_pool.proofs.book_lookup.moves_by_book.Given as goal

abbrev pub invariant-loop-place : goal.invariant-loop-place
invariant-loop-place l = record { board : l.moves.board ≡ l.by_book.board; scoring : l.moves.scoring ≡ l.by_book.scoring }
