use Rattle.std.proofs.Common.{◌∙◌, ap, sym, subst, arith}
use Rattle.oth_pieces.specs.Hands.{IsCrew}
use Rattle.oth_table.specs.Sizes.{IsSizeOrNone}
use Rattle.oth_words.specs.declared.settings.Settings.{Settings}
use Rattle.oth_run.proofs.SolverLemmas.{never_refused}
use Rattle.oth_run.proofs.solver.Solver.scores_of.Goals as goal

pub unreachable-requires : goal.unreachable-requires
unreachable-requires g c =
    let lawful = c.get-lawful.ensures.lawful in
    let crew : IsCrew c.workers_for-workers.result = (omega (arith, lawful.workers.0, c.workers_for-workers.ensures.some), omega (arith, lawful.workers.1, c.workers_for-workers.ensures.few)) in
    let same = c.args.self.now.cells ∙ sym (ap (λ (s : Settings). s.cells) c.get-lawful.ensures.same) in
    never_refused _ _ _ _ c.requires crew (subst IsSizeOrNone (sym same) lawful.cells) c.in-Err.ensures.err
