-- The two sides. A position keeps the discs as the mover's and the opponent's.
--     opponent side      the other side
--     by_mover side a b      the first where Black moves, the second where White does
--     start      the position in which a game begins, with Black to move
use Rattle.std.specs.Prelude.{ℕ, ◌==◌, ◌||◌, if◌then◌else◌}
use Rattle.oth_rules.specs.Position.{Mine, Theirs, Empty, position_of}
use Rattle.oth_text.specs.declared.position.Side.{Side}
use Rattle.oth_text.specs.declared.position.Side.TheVariants.{Black, White}
use Rattle.oth_text.specs.declared.position.Position.{Position}

abbrev pub opponent : Side → Side
opponent Black = White
opponent White = Black

abbrev pub by_mover : Side → ℕ → ℕ → ℕ
by_mover Black a b = a
by_mover White a b = b

-- Black on e4 and d5, White on d4 and e5
unfoldable pub start : Position
start = record {
  board = position_of (λ s. if s == 28 || s == 35 then Mine else if s == 27 || s == 36 then Theirs else Empty);
  mover = Black;
}
