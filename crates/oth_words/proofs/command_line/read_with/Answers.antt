use Rattle.std.proofs.Common.{◌∙◌, ap, sym, subst, List, map, Option}
use Rattle.std.proofs.lemmas.Result.{err_from_is_err_and}
use Rattle.clap.specs.Words.{App, Row, Text, subcommand_of, takes}
use Rattle.oth_words.proofs.Meanings.{exact, fault_kind, no_fault, unread}
use Rattle.oth_words.proofs.Taken.{nothing_meant}
use Rattle.oth_words.specs.CommandLine.{Meaning, Means, othsolve}
use Rattle.oth_words.specs.Plans.{plan_meaning}
use Rattle.oth_words.proofs.command_line.read_with.Goals as goal

pub returns-in_err-matches : goal.returns-in_err-matches
returns-in_err-matches c =
    let p = err_from_is_err_and c.from_residual-in_err-matches.result c.from_residual-in_err-matches.ensures.1 in
    let words = map (λ w. w.now) c.args.words.now in
    rw (p.1, p.2) (record {
      taken = λ taken. c.in_err-matches.ensures.passes (ap (λ (a : App). takes a words) c.in_ok-command.ensures ∙ taken);
      faulty = λ any. fault_kind c.args.scorings _ words c.in_err-matches.field-0.0 c.in_ok-command.ensures c.in_err-matches.ensures.kinds;
    })

pub returns-in_default : goal.returns-in_default
returns-in_default c =
    let same = exact c.args.scorings _ _ _ c.in_ok-command.ensures c.in_ok-matches.ensures.ok.2 in
    record {
      taken = λ taken. absurd (nothing_meant c.args.scorings c.requires _ _ c.in_default.ensures same taken);
      faulty = λ any. absurd (any (no_fault c.args.scorings _ _ c.in_ok-command.ensures c.in_ok-matches.ensures.kinds));
    }

pub returns : goal.returns
returns c =
    let same = exact c.args.scorings _ _ _ c.in_ok-command.ensures c.in_ok-matches.ensures.ok.2 in (
      no_fault c.args.scorings _ _ c.in_ok-command.ensures c.in_ok-matches.ensures.kinds,
      subst (λ (m : Meaning). Means (subcommand_of (othsolve c.args.scorings) (map (λ w. w.now) c.args.words.now)) m) (sym c.in_ok-owned.ensures)
          (subst (λ (o : Option (Text × List Row)). Means o (plan_meaning c.in-Some.plan)) same c.in-Some.ensures),
    )

pub returns-in_err-error : goal.returns-in_err-error
returns-in_err-error c =
    let p = err_from_is_err_and c.from_residual-in_err-error.result c.from_residual-in_err-error.ensures.1 in
    rw (p.1) (unread _ _ p.0 p.2)

pub returns-in_err-owned : goal.returns-in_err-owned
returns-in_err-owned c =
    let p = err_from_is_err_and c.from_residual-in_err-owned.result c.from_residual-in_err-owned.ensures.1 in
    rw (p.1) (unread _ _ p.0 p.2)
