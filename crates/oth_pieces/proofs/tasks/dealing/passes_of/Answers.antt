use Rattle.std.proofs.Common.{◌≡◌, ◌<◌, ap, ◌∙◌, arith, length, slice_index_or}
use Rattle.crossbeam_deque.specs.Handles.{worker_view}
use Rattle.oth_pieces.specs.Hands.{Owner}
use Rattle.oth_pieces.proofs.Dealings.{splits}
use Rattle.oth_pieces.proofs.Handings.{any_default}
use Rattle.oth_pieces.proofs.Handouts.{handing_steps}
use Rattle.oth_pieces.proofs.tasks.dealing.passes_of.Goals as goal

pub another-requires : goal.another-requires
another-requires c =
    let r : Owner = c.index-owners-i.result in
    let below : c.loop-i.i < length c.args.owners.now = omega arith in
    let same : slice_index_or c.loop-i.owners c.loop-i.i r ≡ slice_index_or c.args.owners.now c.loop-i.i r = c.loop-i.invariant.1.rest c.loop-i.i r r (omega arith) below in
    splits _ _ (ap (λ (w : Owner). (worker_view w).knows) same ∙ c.requires c.loop-i.i r below)

pub loop-i-preserved : goal.loop-i-preserved
loop-i-preserved c =
    let r : Owner = c.index-owners-i.result in
    let t : Owner = slice_index_or c.loop-i.owners c.loop-i.i r in
    let inside : c.loop-i.i < length c.loop-i.owners = omega arith in
    let below : c.loop-i.i < length c.args.owners.now = omega arith in
    let e = c.another.ensures in (
      c.push_reserved.ensures.capacity ∙ c.loop-i.invariant.0,
      handing_steps c.args.owners.now c.loop-i.owners c.loop-i.passes.items c.push_reserved.new.self.items c.loop-i.i t c.another.new.self c.another.result c.loop-i.invariant.1 below
          (any_default c.loop-i.owners c.loop-i.i r t inside) (e.same.0.0, e.rule.0) (e.same.2, e.rule.1) c.push_reserved.ensures.items,
    )
