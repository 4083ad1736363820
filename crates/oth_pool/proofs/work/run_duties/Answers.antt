use Rattle.std.proofs.Common.{◌≡◌, ◌<◌, ℕ, List, length, get_or, map, sym, ap, subst, arith}
use Rattle.std.specs.List.{All}
use Rattle.oth_pool.specs.declared.work.Duty.{Duty}
use Rattle.oth_pieces.specs.Hands.{AreAllHands}
use Rattle.oth_pool.specs.Working.{Holds, CanWork}
use Rattle.oth_pieces.proofs.Handouts.{written_back}
use Rattle.oth_pool.proofs.Workings.{duties_can, duties_did}
use Rattle.oth_pool.proofs.work.run_duties.Goals as goal

pub work_all-requires-after_bounds : goal.work_all-requires-after_bounds
work_all-requires-after_bounds g c κs within =
    let P : List (Duty g.row.C.Denot g.row.G.Denot) → Type 0 = λ js.
    (i : ℕ) (d : Duty g.row.C.Denot g.row.G.Denot) → i < length js → CanWork c.args.search.now.frontier.now c.args.search.now.scoring c.args.tasks.now (get_or js i d).work in
    subst P (sym c.as_mut_slice.ensures.value) (duties_can c.args.search.now.frontier.now c.args.search.now.scoring c.args.tasks.now c.args.duties.items c.requires.hands c.requires.each)

pub returns-clause-hands : goal.returns-clause-hands
returns-clause-hands g c =
    let size = c.args.duties.ok.0 in
    let new : List (Duty g.row.C.Denot g.row.G.Denot) = c.work_all.new.duties in
    let same : length new ≡ length c.as_mut_slice.result.now = c.work_all.auto.duties in
    let A : List (Duty g.row.C.Denot g.row.G.Denot) → Type 0 = λ js. AreAllHands c.args.tasks.now (map (λ (j : Duty g.row.C.Denot g.row.G.Denot). j.work.hand) js) in
    let old : A c.as_mut_slice.result.now = subst A (sym c.as_mut_slice.ensures.value) c.requires.hands in
    subst A (sym (written_back _ new _ (omega (arith, ap length c.as_mut_slice.ensures.value))))
    (duties_did c.args.search.now.frontier.now c.args.search.now.scoring c.args.tasks.now c.as_mut_slice.result.now new old same c.work_all.ensures.works c.work_all.ensures.numbers)

pub returns-clause-each : goal.returns-clause-each
returns-clause-each g c =
    let size = c.args.duties.ok.0 in
    let new : List (Duty g.row.C.Denot g.row.G.Denot) = c.work_all.new.duties in
    let same : length new ≡ length c.as_mut_slice.result.now = c.work_all.auto.duties in
    let A : List (Duty g.row.C.Denot g.row.G.Denot) → Type 0 = λ js. All (λ (j : Duty g.row.C.Denot g.row.G.Denot). Holds c.args.search.now.frontier.now c.args.search.now.scoring j.work) js in
    subst A (sym (written_back _ new _ (omega (arith, ap length c.as_mut_slice.ensures.value))))
    (λ i d below. (c.work_all.ensures.works i d (omega arith)).holds)
