use Rattle.std.proofs.Common.{◌≡◌, ◌+◌, length, ◌++◌, ◌∷◌, [], ◌∙◌, ap, ap₂, arith, refl, sym}
use Rattle.std.specs.List.{flat_map}
use Rattle.std.proofs.lemmas.List.{take_all}
use Rattle.oth_text.specs.Analysis.{if_by, loss, lost_by, turn_line, turn_part}
use Rattle.oth_text.specs.declared.position.Side.TheVariants.{Black, White}
use Rattle.oth_web.proofs.Turns.{lost-next, told-next}
use Rattle.oth_web.proofs.analysing.push_turns.Goals as goal

pub loop-turn-init : goal.loop-turn-init
loop-turn-init c = record {
  told = c.requires.empty;
  len = let none : length c.args.text.now.items ≡ 0 = ap length c.requires.empty in omega (arith, none);
  black = refl;
  white = refl;
  few = omega arith;
  fewer = omega arith;
}

pub add-requires-clause-black : goal.add-requires-clause-black
add-requires-clause-black c = omega (arith, c.loop-turn.invariant.few, c.loop-turn-test.true, c.requires.count)

pub add-requires-clause-white : goal.add-requires-clause-white
add-requires-clause-white c = omega (arith, c.loop-turn.invariant.fewer, c.loop-turn-test.true, c.requires.count)

pub push_line-requires : goal.push_line-requires
push_line-requires c = record { room = omega (arith, c.loop-turn.invariant.len, c.loop-turn-test.true, c.requires.count, c.as_slice.ensures.fits) }

pub loop-turn-preserved : goal.loop-turn-preserved
loop-turn-preserved c =
    let scoring = c.args.scoring in
    let so_far = c.loop-turn.invariant in
    let judged = c.of-judged.ensures in
    let same = judged.scoring ∙ c.answer_of-answer.ensures.scoring in
    let line = c.as_slice.ensures.value ∙ c.turn_line.ensures.text ∙ ap₂ (turn_line c.args.number) same judged.turn in
    let black = c.add.ensures.black ∙ ap₂ (λ g t. c.loop-turn.lost.black + if_by Black t.before.mover (loss g t)) same judged.turn in
    let white = c.add.ensures.white ∙ ap₂ (λ g t. c.loop-turn.lost.white + if_by White t.before.mover (loss g t)) same judged.turn in
    record {
      told = c.push_line.ensures.told ∙ ap₂ (λ a b. a ++ (b ++ 10 ∷ [])) so_far.told line
          ∙ sym (told-next c.args.number scoring c.args.turns.now c.loop-turn.turn-index c.turn-item.result c.loop-turn-test.true c.turn-item.is);
      len = omega (arith, so_far.len, c.push_line.ensures.len, c.as_slice.ensures.fits);
      black = lost-next Black scoring c.args.turns.now c.loop-turn.turn-index c.turn-item.result _ _ c.loop-turn-test.true c.turn-item.is so_far.black black;
      white = lost-next White scoring c.args.turns.now c.loop-turn.turn-index c.turn-item.result _ _ c.loop-turn-test.true c.turn-item.is so_far.white white;
      few = omega (arith, c.add.ensures.most.0, so_far.few);
      fewer = omega (arith, c.add.ensures.most.1, so_far.fewer);
    }

pub returns-clause-told : goal.returns-clause-told
returns-clause-told c =
    c.loop-turn.invariant.told ∙ ap (flat_map (turn_part c.args.number c.args.scoring)) (take_all c.loop-turn.turn-index c.args.turns.now c.loop-turn-test.false)

pub returns-clause-len : goal.returns-clause-len
returns-clause-len c = omega (arith, c.loop-turn.invariant.len, c.loop-turn.auto.turn-index-end, c.requires.count)

pub returns-clause-black : goal.returns-clause-black
returns-clause-black c =
    c.loop-turn.invariant.black ∙ ap (lost_by Black c.args.scoring) (take_all c.loop-turn.turn-index c.args.turns.now c.loop-turn-test.false)

pub returns-clause-white : goal.returns-clause-white
returns-clause-white c =
    c.loop-turn.invariant.white ∙ ap (lost_by White c.args.scoring) (take_all c.loop-turn.turn-index c.args.turns.now c.loop-turn-test.false)
