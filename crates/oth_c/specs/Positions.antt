-- Positions as C has them.
--     side_number side      0 Black, 1 White
--     words_of p      the numbers of a position
--     shown c      the position of such numbers
--     position_code c      what a call that takes a position answers: the first cause of a refusal, in this order, or 0
use Rattle.std.specs.Prelude.{ℕ, ◌==◌, nat_lt, if◌then◌else◌}
use Rattle.oth_text.specs.declared.position.Side.{Side}
use Rattle.oth_text.specs.declared.position.Side.TheVariants.{Black, White}
use Rattle.oth_text.specs.declared.position.Position.{Position}
use Rattle.oth_c.specs.declared.refusal.Refusal.TheVariants as refusal
use Rattle.oth_c.specs.declared.texts.position.OthPosition.{OthPosition}
use Rattle.oth_c.specs.Boards.{overlaps, position}
use Rattle.oth_c.specs.Codes.{code_of}

abbrev pub side_number : Side → ℕ
side_number Black = 0
side_number White = 1

abbrev pub side_of : ℕ → Side
side_of n = if n == 0 then Black else White

abbrev pub words_of : Position → OthPosition
words_of p = record { board = record { own = p.board.own; opp = p.board.opp }; mover = side_number p.mover }

abbrev pub shown : OthPosition → Position
shown c = record { board = position c.board; mover = side_of c.mover }

abbrev pub position_code : OthPosition → ℕ
position_code c =
    if overlaps c.board then code_of refusal.Overlap
    else if nat_lt c.mover 2 then 0 else code_of refusal.Mover
