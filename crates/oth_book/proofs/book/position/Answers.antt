use Rattle.std.proofs.Common.{rules}
use Rattle.std.proofs.lemmas.Fn.{always_returns_same}
use Rattle.oth_book.specs.Order.{board_cmp}
use Rattle.oth_book.proofs.BookLemmas.{searched, found_only, absent_only}
use Rattle.oth_book.proofs.book.position.Goals as goal

pub returns : goal.returns
returns c =
    let facts = c.binary_search_by.ensures in
    let by_board = facts.position (λ a. board_cmp a.board c.args.board.now) (always_returns_same _ _ _ (λ a r g called. (search rules, search rules))) in
    let found = searched c.args.scoring c.args.entries.now c.args.board.now c.binary_search_by.result c.requires.book c.requires.board facts.bound by_board in
    record { found = found_only c.binary_search_by.result _ _ found; absent = absent_only c.binary_search_by.result _ _ found }
