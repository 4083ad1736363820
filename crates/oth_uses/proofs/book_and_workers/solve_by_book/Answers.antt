use Rattle.std.proofs.Common.{rules}
use Rattle.oth_uses.proofs.book_and_workers.solve_by_book.Goals as goal

pub returns-clause-full : goal.returns-clause-full
returns-clause-full g c = search rules

pub returns-in_err-book-clause-board : goal.returns-in_err-book-clause-board
returns-in_err-book-clause-board g c = search rules
