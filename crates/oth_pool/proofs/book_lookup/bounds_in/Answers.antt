use Rattle.std.proofs.Common.{rules}
use Rattle.oth_pool.proofs.book_lookup.bounds_in.Goals as goal

pub returns-in-Some-find_bounds-clause-by_book : goal.returns-in-Some-find_bounds-clause-by_book
returns-in-Some-find_bounds-clause-by_book c = search rules
