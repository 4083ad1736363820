-- What an answer says of a board besides its score and its best moves.
use Rattle.std.specs.Prelude.{if◌then◌else◌}
use Rattle.oth_rules.specs.Position.{Position, pass}
use Rattle.oth_rules.specs.Move.{can_move}
use Rattle.oth_search.specs.declared.bounds.kind.Kind.{Kind}
use Rattle.oth_search.specs.declared.bounds.kind.Kind.TheVariants.{Move, Pass, End}

-- whether the mover moves, passes, or the game is over
unfoldable pub kind_of : Position → Kind
kind_of p = if can_move p then Move else if can_move (pass p) then Pass else End
