use Rattle.std.proofs.Common.{◌≡◌, List, length, sym, ap, subst, arith}
use Rattle.oth_pieces.specs.declared.tasks.state.Hand.{Hand}
use Rattle.oth_pieces.specs.Hands.{AreAllHands}
use Rattle.oth_pieces.proofs.Handouts.{each_drew, written_back}
use Rattle.oth_pieces_tests.proofs.tests.draw_all.Goals as goal

pub returns : goal.returns
returns g c =
    let size = c.args.hands.now.ok.0 in
    let new : List Hand = c.draw_each.new.hands in
    let same : length new ≡ length c.as_mut_slice.result.now = c.draw_each.auto.hands in
    let A : List Hand → Type 0 = AreAllHands c.args.tasks.now in
    let old : A c.as_mut_slice.result.now = subst A (sym c.as_mut_slice.ensures.value) c.requires in
    subst A (sym (written_back _ new _ (omega (arith, ap length c.as_mut_slice.ensures.value))))
    (each_drew c.args.tasks.now c.as_mut_slice.result.now new old same c.draw_each.ensures.hands c.draw_each.ensures.numbers)
