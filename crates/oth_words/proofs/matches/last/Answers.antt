use Rattle.std.proofs.Common.{codes}
use Rattle.clap.specs.Words.{found_of}
use Rattle.oth_words.proofs.Meanings.{number_rows, number_text}
use Rattle.oth_words.proofs.matches.last.Goals as goal

pub returns-in_err-last : goal.returns-in_err-last
returns-in_err-last c = rw c.from_residual.ensures (λ n has. c.in_err-last.ensures n (number_text (found_of c.args.matches.now) (codes "last") n has.number) has.some has.most)

pub returns : goal.returns
returns c =
    let last = c.in_ok-last.ensures in
    record { number = number_rows (found_of c.args.matches.now) (codes "last") _ last.0; some = last.1; most = last.2 }
