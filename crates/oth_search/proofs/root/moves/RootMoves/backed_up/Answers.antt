use Rattle.std.proofs.Common.{◌<◌, map, length, refl, arith}
use Rattle.std.proofs.lemmas.Int.{ints}
use Rattle.std.proofs.lemmas.List.{length-map}
use Rattle.oth_search.specs.Root.Moves.{square_of}
use Rattle.oth_search.proofs.BoundsLemmas.SquareSets.{FromPlace-end}
use Rattle.oth_search.proofs.BoundsLemmas.Replies.{NoneAbove-list}
use Rattle.oth_search.proofs.BoundsLemmas.Enclosing.{MovesLoop-start, MovesLoop-next, MovesLoop-end, same_scoring}
use Rattle.oth_search.proofs.RootLemmas.MoveLists.{Takes-move, root_move-at, some-listed, can_move-some}
use Rattle.oth_search.proofs.root.moves.RootMoves.backed_up.Goals as goal

pub loop-root_move-init : goal.loop-root_move-init
loop-root_move-init c =
    MovesLoop-start c.self.inside.root.scoring c.self.inside.root.board _ _ _ refl refl
    (NoneAbove-list c.self.inside.root.scoring c.self.inside.root.board _ _ _ refl c.self.invariant.squares)

pub loop-root_move-preserved : goal.loop-root_move-preserved
loop-root_move-preserved c =
    let root = c.self.inside.root in
    let ms = c.self.inside.list.items in
    let i = c.loop-root_move.root_move-index in
    let m = c.root_move-item.result in
    let child = m.child in
    let within : i < length ms = rw c.as_slice-root_move-items.ensures.value at c.loop-root_move-test.true in
    let is = rw c.as_slice-root_move-items.ensures.value at c.root_move-item.is in
    let one = root_move-at _ ms i m within is c.self.invariant in
    let low = c.greater-lower.ensures in
    let high = c.greater-upper.ensures in
    MovesLoop-next root.scoring root.board child.board _ m.square _ _ _ child.interval.lower child.interval.upper _ _ c.greater-lower.result c.greater-upper.result _ _ c.loop-root_move.invariant
    (Takes-move ms i m within is)
    one.board
    child.interval.is_interval
    (same_scoring root.scoring child.scoring child.board _ _ one.scoring child.encloses)
    (omega (arith, ints))
    (omega (arith, ints))
    (record { left = low.left; right = low.right; least = low.least })
    (record { left = high.left; right = high.right; least = high.least })
    (omega (arith, ints))
    (omega (arith, ints))

pub invariant_of-joined-2 : goal.invariant_of-joined-2
invariant_of-joined-2 c =
    let ms = c.self.inside.list.items in
    let end = rw c.as_slice-root_move-items.ensures.value at c.loop-root_move-test.false in
    record {
      encloses = MovesLoop-end c.self.inside.root.scoring c.self.inside.root.board _ _ _ c.loop-root_move.invariant
          (λ s h. FromPlace-end (map square_of ms) c.loop-root_move.root_move-index s (omega (arith, end, length-map ms square_of)) h)
          (can_move-some _ ms (some-listed _ c.if-is_empty.ensures) c.self.invariant);
    }
