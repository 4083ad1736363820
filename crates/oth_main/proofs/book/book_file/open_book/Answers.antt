use Rattle.std.proofs.Common.{rules}
use Rattle.oth_main.specs.declared.book.book_file.BookRefusal.TheVariants.{Text, Claim}
use Rattle.oth_main.proofs.FileLemmas.{for_memory}
use Rattle.oth_main.proofs.book.book_file.open_book.Goals as goal

pub returns-in-Err-clause-memory : goal.returns-in-Err-clause-memory
returns-in-Err-clause-memory g c = λ book. for_memory c.args.file.now book.0 (Text c.in-Err.fault) book.1 c.in-Err.ensures.fault

pub returns-in-Err-verify_by-clause-memory : goal.returns-in-Err-verify_by-clause-memory
returns-in-Err-verify_by-clause-memory g c = λ book.
    for_memory c.args.file.now book.0 (Claim c.in-Err-verify_by.wrong) book.1 (c.in-Ok.claims, c.in-Ok.ensures.text, c.in-Err-verify_by.ensures.wrong)

pub returns-in-Err-clause-refused : goal.returns-in-Err-clause-refused
returns-in-Err-clause-refused g c = search rules

pub returns-in-Ok-verify_by-clause-text : goal.returns-in-Ok-verify_by-clause-text
returns-in-Ok-verify_by-clause-text g c = search rules
