use Rattle.std.proofs.Common.{refl}
use Rattle.oth_book.proofs.WriteLemmas.{reads_back}
use Rattle.oth_book.proofs.text.writing.write.Goals as goal

pub write_lines-requires-clause-version : goal.write_lines-requires-clause-version
write_lines-requires-clause-version g c = (_, refl)

pub write_lines-requires-clause-bounds : goal.write_lines-requires-clause-bounds
write_lines-requires-clause-bounds g c = rw c.entries.ensures.entries (λ k d h. (c.entries.ensures.book.each k d h).interval)

pub returns-in-Ok-clause-text : goal.returns-in-Ok-clause-text
returns-in-Ok-clause-text g c = reads_back c.args.book.now c.entries.ensures.book

pub returns-in-Err-clause-text : goal.returns-in-Err-clause-text
returns-in-Err-clause-text g c = reads_back c.args.book.now c.entries.ensures.book
