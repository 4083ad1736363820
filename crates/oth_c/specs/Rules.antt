-- What the calls of the rules answer: the first cause of a refusal, in this order, or 0.
--     board_code b         of a call that takes a board
--     square_code b s      of a call that takes a board and a square
--     play_code b s        of a move
use Rattle.std.specs.Prelude.{ℕ, if◌then◌else◌, nat_lt}
use Rattle.oth_rules.specs.Move.{is_legal}
use Rattle.oth_c.specs.declared.board.OthBoard.{OthBoard}
use Rattle.oth_c.specs.declared.refusal.Refusal.TheVariants as refusal
use Rattle.oth_c.specs.Boards.{overlaps, position}
use Rattle.oth_c.specs.Codes.{code_of}

abbrev pub board_code : OthBoard → ℕ
board_code b = if overlaps b then code_of refusal.Overlap else 0

abbrev pub square_code : OthBoard → ℕ → ℕ
square_code b s =
    if overlaps b then code_of refusal.Overlap
    else if nat_lt s 64 then 0 else code_of refusal.Square

abbrev pub play_code : OthBoard → ℕ → ℕ
play_code b s =
    if overlaps b then code_of refusal.Overlap
    else if nat_lt s 64 then (if is_legal (position b) s then 0 else code_of refusal.Illegal)
    else code_of refusal.Square
