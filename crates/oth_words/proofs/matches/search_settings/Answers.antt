use Rattle.std.proofs.Common.{refl, arith, codes}
use Rattle.oth_words.proofs.Meanings.{number_rows, number_text}
use Rattle.clap.specs.Words.{found_of, rows_of}
use Rattle.oth_words.specs.CommandLine.{HasNumbers}
use Rattle.oth_words.proofs.matches.search_settings.Goals as goal

pub returns-in-Some-Some : goal.returns-in-Some-Some
returns-in-Some-Some c =
    let workers = rw c.in-Some-Some.is-0 at c.number-workers.ensures in
    let cells = rw c.in-Some-Some.is-1 at c.number-cells.ensures in
    let numbers : HasNumbers (rows_of (found_of c.args.matches.now)) (record { command = c.args.command; workers = _; cells = _; scoring = c.args.scoring }) = record {
      workers = number_rows (found_of c.args.matches.now) (codes "workers") _ workers.0;
      cells = number_rows (found_of c.args.matches.now) (codes "cells") _ cells.0;
      some_workers = workers.1;
      most_workers = workers.2;
      most_cells = cells.2;
    } in
    (numbers, refl, refl)

pub returns-in_default : goal.returns-in_default
returns-in_default c = λ s numbers.
    let none = rw c.in_default.is-1 at c.number-cells.ensures in
    none s.cells (number_text (found_of c.args.matches.now) (codes "cells") s.cells numbers.cells) (omega arith) numbers.most_cells

pub returns-in_default-2 : goal.returns-in_default-2
returns-in_default-2 c = λ s numbers.
    let none = rw c.in_default.is-0 at c.number-workers.ensures in
    none s.workers (number_text (found_of c.args.matches.now) (codes "workers") s.workers numbers.workers) numbers.some_workers numbers.most_workers
