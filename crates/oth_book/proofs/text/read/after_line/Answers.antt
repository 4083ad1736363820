use Rattle.std.proofs.Common.{ap, ◌∙◌, drop}
use Rattle.std.proofs.lemmas.List.{take_rest}
use Rattle.oth_book.proofs.text.read.after_line.Goals as goal

pub returns : goal.returns
returns c = take_rest c.args.rest.now c.line_len.result ∙ ap (λ n. drop n c.args.rest.now) c.line_len.ensures
