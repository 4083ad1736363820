use Rattle.std.proofs.lemmas.Result.{on_err_weaker}
use Rattle.oth_main.proofs.AdditionLemmas.{no_place}
use Rattle.oth_main.proofs.book.addition.Addition.add_line.Goals as goal

pub returns-in-Ok-clause-full : goal.returns-in-Ok-clause-full
returns-in-Ok-clause-full g c = on_err_weaker c.add.result (λ h. λ line kept. no_place c.args.self.now.book line c.in-Ok.answer h.1.0 (c.in-Ok.ensures.answers line kept) h.0 h.1.1) c.add.ensures.full
