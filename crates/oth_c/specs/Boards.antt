-- Boards as C has them.
--     position b      the position of a board's words
--     overlaps b      a square is in both words
use Rattle.std.specs.Prelude.{Bool, nat_lt, bit_and}
use Rattle.oth_rules.specs.Position.{Position}
use Rattle.oth_c.specs.declared.board.OthBoard.{OthBoard}

abbrev pub position : OthBoard → Position
position b = record { own = b.own; opp = b.opp }

abbrev pub overlaps : OthBoard → Bool
overlaps b = nat_lt 0 (bit_and b.own b.opp)
