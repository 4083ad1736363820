use Rattle.std.proofs.Common.{◌+◌, ◌++◌, ◌∙◌, ap, ap₂, append-nil, arith, refl, subst, sym}
use Rattle.std.specs.List.{flat_map}
use Rattle.std.proofs.lemmas.List.{take_all}
use Rattle.oth_text.specs.Analysis.{if_by, loss, lost_by, turn_line, turn_part}
use Rattle.oth_text.specs.declared.position.Side.TheVariants.{Black, White}
use Rattle.oth_run.specs.Gathered.{IsGathered}
use Rattle.oth_run.proofs.GameLemmas.{gathered-next, lost-next, stopped-next}
use Rattle.oth_run.proofs.GatherLemmas.{on_err_always}
use Rattle.oth_run.proofs.game.Game.tell_turns.Goals as goal

pub loop-turn-init : goal.loop-turn-init
loop-turn-init g c = record {
  told = λ before done gathered. subst (IsGathered before _ _) (sym (append-nil done)) gathered;
  black = refl;
  white = refl;
  few = omega arith;
  fewer = omega arith;
  works = refl;
}

pub add-requires-clause-black : goal.add-requires-clause-black
add-requires-clause-black g c = omega (arith, c.loop-turn.invariant.few, c.loop-turn-test.true, c.requires.count)

pub add-requires-clause-white : goal.add-requires-clause-white
add-requires-clause-white g c = omega (arith, c.loop-turn.invariant.fewer, c.loop-turn-test.true, c.requires.count)

pub returns-in_err-push_line-clause-err : goal.returns-in_err-push_line-clause-err
returns-in_err-push_line-clause-err g c = on_err_always c.from_residual.result (λ before done gathered.
    let judged = c.judged-judged.ensures in
    let line = c.as_slice.ensures.value ∙ c.turn_line.ensures.text ∙ ap₂ (turn_line c.args.self.now.number) judged.scoring judged.turn in
    stopped-next before _ c.args.self.now.number c.args.solver.now.settings.scoring c.args.known.turns.now c.loop-turn.turn-index c.turn-item.result c.loop-turn-test.true c.turn-item.is done _ line
    (c.in_err-push_line.ensures.err before _ (c.loop-turn.invariant.told before done gathered)))

pub loop-turn-preserved : goal.loop-turn-preserved
loop-turn-preserved g c =
    let scoring = c.args.solver.now.settings.scoring in
    let so_far = c.loop-turn.invariant in
    let judged = c.judged-judged.ensures in
    let line = c.as_slice.ensures.value ∙ c.turn_line.ensures.text ∙ ap₂ (turn_line c.args.self.now.number) judged.scoring judged.turn in
    let black = c.add.ensures.black ∙ ap₂ (λ g t. c.loop-turn.lost.black + if_by Black t.before.mover (loss g t)) judged.scoring judged.turn in
    let white = c.add.ensures.white ∙ ap₂ (λ g t. c.loop-turn.lost.white + if_by White t.before.mover (loss g t)) judged.scoring judged.turn in
    record {
      told = λ before done gathered.
          gathered-next before _ c.args.self.now.number scoring c.args.known.turns.now c.loop-turn.turn-index c.turn-item.result c.loop-turn-test.true c.turn-item.is done _ line _
          (c.in_ok-push_line.ensures.ok before _ (so_far.told before done gathered));
      black = lost-next Black scoring c.args.known.turns.now c.loop-turn.turn-index c.turn-item.result _ _ c.loop-turn-test.true c.turn-item.is so_far.black black;
      white = lost-next White scoring c.args.known.turns.now c.loop-turn.turn-index c.turn-item.result _ _ c.loop-turn-test.true c.turn-item.is so_far.white white;
      few = omega (arith, c.add.ensures.most.0, so_far.few);
      fewer = omega (arith, c.add.ensures.most.1, so_far.fewer);
      works = c.in_ok-push_line.ensures.works ∙ so_far.works;
    }

pub returns-clause-ok : goal.returns-clause-ok
returns-clause-ok g c = λ before done gathered.
    let all = take_all c.loop-turn.turn-index c.args.known.turns.now c.loop-turn-test.false in
    subst (IsGathered before _ _) (ap (λ ts. done ++ flat_map (turn_part c.args.self.now.number c.args.solver.now.settings.scoring) ts) all) (c.loop-turn.invariant.told before done gathered)

pub returns-clause-lost : goal.returns-clause-lost
returns-clause-lost g c =
    let all = take_all c.loop-turn.turn-index c.args.known.turns.now c.loop-turn-test.false in (
      c.loop-turn.invariant.black ∙ ap (lost_by Black c.args.solver.now.settings.scoring) all,
      c.loop-turn.invariant.white ∙ ap (lost_by White c.args.solver.now.settings.scoring) all,
    )

pub returns-clause-works : goal.returns-clause-works
returns-clause-works g c = c.loop-turn.invariant.works
