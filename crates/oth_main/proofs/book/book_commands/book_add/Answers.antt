use Rattle.std.proofs.Common.{inr}
use Rattle.oth_main.specs.BookFile.{IsBookOf}
use Rattle.oth_main.proofs.AdditionLemmas.{is_done, is_stopped}
use Rattle.oth_main.proofs.book.book_commands.book_add.Goals as goal

pub returns-in-Ok-open_book-clause-added : goal.returns-in-Ok-open_book-clause-added
returns-in-Ok-open_book-clause-added g c = λ zero.
    let of_file : IsBookOf c.args.file.now c.in-Ok-open_book.book = record { holds = c.in-Ok-open_book.ensures.holds; text = c.in-Ok-open_book.ensures.text } in
    (_, rw c.of-in-Ok-open_book.ensures.book of_file, is_done c.add_lines.result _ _ _ c.add_lines.ensures.status zero)

pub returns-in-Ok-open_book-clause-refused : goal.returns-in-Ok-open_book-clause-refused
returns-in-Ok-open_book-clause-refused g c = λ three.
    let of_file : IsBookOf c.args.file.now c.in-Ok-open_book.book = record { holds = c.in-Ok-open_book.ensures.holds; text = c.in-Ok-open_book.ensures.text } in
    let stopped = is_stopped c.add_lines.result _ _ _ c.add_lines.ensures.status three in
    (stopped.0, inr (_, rw c.of-in-Ok-open_book.ensures.book of_file, stopped.1))
