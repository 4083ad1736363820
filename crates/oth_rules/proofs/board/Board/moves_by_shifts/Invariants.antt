use Rattle.std.proofs.Common.{◌≡◌, take}
use Rattle.std.specs.List.{list_any}
use Rattle.oth_rules.specs.Square.{word_of}
use Rattle.oth_rules.specs.Line.{direction_of, outflanks}
use Rattle.oth_rules.proofs.board.Board.moves_by_shifts.Given as goal

-- the squares that outflank in one of the directions so far
abbrev pub invariant-loop-direction : goal.invariant-loop-direction
invariant-loop-direction l = l.outflanking ≡ word_of (λ s. list_any (λ d. outflanks l.self s (direction_of d)) (take l.direction-index l.direction-items))
