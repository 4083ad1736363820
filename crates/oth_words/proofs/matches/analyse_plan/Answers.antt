use Rattle.std.proofs.Common.{◌∙◌, ap, refl, sym, subst, codes, Some, None}
use Rattle.clap.specs.Words.{found_of, rows_of}
use Rattle.oth_words.proofs.Meanings.{analyse_means}
use Rattle.oth_words.specs.CommandLine.{MeansRun, scoring_word}
use Rattle.oth_words.proofs.matches.analyse_plan.Goals as goal

pub returns-in_err-last : goal.returns-in_err-last
returns-in_err-last c = rw c.from_residual.ensures (λ m means.
    let got = analyse_means (rows_of (found_of c.args.matches.now)) m means in
    c.in_err-last.ensures got.3.0 got.3.1)

pub returns-in_err-scoring : goal.returns-in_err-scoring
returns-in_err-scoring c = rw c.from_residual-in_err-scoring.ensures (λ m means.
    let got = analyse_means (rows_of (found_of c.args.matches.now)) m means in
    c.in_err-scoring.ensures got.0.scoring got.2)

pub returns-in_err-settings : goal.returns-in_err-settings
returns-in_err-settings c = rw c.from_residual-in_err-settings.ensures (λ m means.
    let got = analyse_means (rows_of (found_of c.args.matches.now)) m means in
    c.in_err-settings.ensures got.0 got.1)

pub returns : goal.returns
returns c =
    let settings = c.in_ok-settings.ensures in (
      subst (λ t. MeansRun t (codes "analyse", rows_of (found_of c.args.matches.now)) c.in_ok-settings.settings None) (sym settings.1)
          (refl, settings.0, c.in_ok-scoring.ensures ∙ ap (λ s. Some (scoring_word s)) (sym settings.2), refl, c.in_ok-last.ensures),
      sym c.files.ensures,
      sym c.telling.ensures,
    )
