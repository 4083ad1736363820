use Rattle.std.proofs.Common.{subst, ℕ, arith}
use Rattle.oth_pieces.specs.Hands.{HasRoom}
use Rattle.oth_pieces.proofs.Handouts.{new_hand}
use Rattle.oth_pieces.proofs.tasks.dealing.hand_of.Goals as goal

pub returns : goal.returns
returns c =
    let P : ℕ → Type 0 = λ n. HasRoom n c.in_ok-room.room in
    new_hand c.args.tasks.now c.args.number c.args.owner c.args.passes c.in_ok-list.list c.in_ok-room.room c.requires.number c.requires.owner c.requires.pile c.in_ok-list.ensures.items
    (omega (arith, c.in_ok-list.ensures.capacity)) (subst P c.len.ensures c.in_ok-room.ensures)
