use Rattle.std.proofs.Common.{◌+◌, ◌∙◌, ◌++◌, ◌∷◌, [], Some, ap, ap₂, arith, filter, length, sym}
use Rattle.oth_text.specs.Analysis.{is_told}
use Rattle.oth_text.proofs.AnalysisLemmas.{all-few, room-first, room-more, told-first, told-last, told-more, turns-short, turns-step, turns-stop}
use Rattle.oth_text.proofs.analysis_reader.turns_told.Goals as goal

pub loop-rest-init : goal.loop-rest-init
loop-rest-init c = record {
  told = told-first c.args.last c.args.from _ _ _ _ c.new-told.ensures c.push_pass.ensures.told c.with_forced_pass-position.ensures.passed;
  room = room-first _ _ (let len = c.push_pass.ensures.len in let none = ap length c.new-told.ensures in omega arith);
}

pub returns-in_default-clause-turns : goal.returns-in_default-clause-turns
returns-in_default-clause-turns c = told-last c.args.last _ _ _ _ c.loop-rest.invariant.told
    (turns-stop c.loop-rest.position _ _ _ c.split_at.ensures.front c.loop-rest-test.true c.in_default.ensures.err)

pub push_told-requires : goal.push_told-requires
push_told-requires c = record { room = λ few. let most = c.loop-rest.invariant.room.few (omega arith) in omega arith }

pub push_pass-requires-in-loop-rest : goal.push_pass-requires-in-loop-rest
push_pass-requires-in-loop-rest c =
    let room = c.loop-rest.invariant.room in
    let less = c.in-Ok.ensures.fewer in
    let len = c.push_told.ensures.len in
    record { room = λ few. let most = room.few (omega arith) in omega arith }

pub loop-rest-smaller : goal.loop-rest-smaller
loop-rest-smaller c = omega (arith, c.split_at.ensures.back_len, c.loop-rest-test.true)

pub loop-rest-preserved : goal.loop-rest-preserved
loop-rest-preserved c =
    let p = c.loop-rest.position in
    let played = c.in-Ok.ensures.ok in
    let step = turns-step p _ _ _ c.split_at.ensures.front c.split_at.ensures.back c.loop-rest-test.true played.0 in
    let turn = ap₂ (λ s b. filter (is_told c.args.last) (record { before = p; played = Some s; after = b } ∷ [])) played.1 played.2 in
    record {
      told = told-more c.args.last _ _ _ _ p _ _ _ _ _ c.loop-rest.invariant.told step (c.push_told.ensures.told ∙ ap (λ ts. c.loop-rest.told.items ++ ts) turn) c.push_pass-in-loop-rest.ensures.told
          (ap₂ (λ b m. record { board = b; mover = m }) played.2 c.opponent.ensures) c.with_forced_pass-position-in-loop-rest.ensures.passed;
      room = room-more _ _ _ _ _ c.loop-rest.invariant.room
          (ap (λ n. n + 1) c.with_forced_pass-position-in-loop-rest.ensures.empties ∙ c.in-Ok.ensures.fewer) c.push_told.ensures.len c.push_told.ensures.none
          c.push_pass-in-loop-rest.ensures.len (rw (sym c.with_forced_pass-position-in-loop-rest.ensures.empties) at c.push_pass-in-loop-rest.ensures.none);
    }

pub returns-clause-turns : goal.returns-clause-turns
returns-clause-turns c = told-last c.args.last _ _ _ _ c.loop-rest.invariant.told (turns-short c.loop-rest.position _ c.loop-rest-test.false)

pub returns-in_default-clause-few : goal.returns-in_default-clause-few
returns-in_default-clause-few c =
    all-few c.args.last c.args.from c.args.text.now _
    (told-last c.args.last _ _ _ _ c.loop-rest.invariant.told (turns-stop c.loop-rest.position _ _ _ c.split_at.ensures.front c.loop-rest-test.true c.in_default.ensures.err))

pub returns-clause-few : goal.returns-clause-few
returns-clause-few c = all-few c.args.last c.args.from c.args.text.now _ (told-last c.args.last _ _ _ _ c.loop-rest.invariant.told (turns-short c.loop-rest.position _ c.loop-rest-test.false))
