-- A canonical board with bounds of its value, and the three words in which a table keeps it.
--     IsTrueEntry x      the board is canonical and the bounds enclose its value
--     packed lower upper      both bounds in one word
--     words_of x      own discs, opposing discs, the packed bounds
--     joined old given      what a cell keeps
use Rattle.std.specs.Prelude.{ℕ, ◌+◌, ◌*◌, ◌==◌, Bool, ◌&&◌, if◌then◌else◌, List, [], ◌∷◌, Option, Some, None, ℤ, pos, ◌+ℤ◌, unsigned_abs}
use Rattle.std.specs.Int.{int_max, int_min}
use Rattle.oth_rules.specs.declared.scoring.Scoring.{Scoring}
use Rattle.oth_rules.specs.Position.{Position}
use Rattle.oth_rules.specs.Score.{score_of}
use Rattle.oth_rules.specs.Value.{value}
use Rattle.oth_rules.specs.Symmetry.{IsCanonical}
use Rattle.oth_search.specs.Bounds.Interval.{IsInterval, Encloses}

-- an entry: a board, and a lower and an upper bound of its value under the scoring
pub record Bounded : Type 0 where
  pub board : Position
  pub scoring : Scoring
  pub lower : ℤ
  pub upper : ℤ

pub record IsTrueEntry (x : Bounded) : Type 0 where
  pub canonical : IsCanonical x.board
  pub bounds : IsInterval x.lower x.upper
  pub encloses : Encloses x.lower x.upper (value (score_of x.scoring) x.board)

-- a bound as a number from 0 to 128
abbrev pub raised : ℤ → ℕ
raised z = unsigned_abs (z +ℤ pos 64)

abbrev pub packed : ℤ → ℤ → ℕ
packed lower upper = raised lower + 256 * raised upper

abbrev pub words_of : Bounded → List ℕ
words_of x = x.board.own ∷ x.board.opp ∷ packed x.lower x.upper ∷ []

-- both entries are of one board
abbrev pub same_board : Bounded → Bounded → Bool
same_board x y = (x.board.own == y.board.own) && (x.board.opp == y.board.opp)

-- the second entry, with the greater of both lower bounds and the lesser of both upper bounds
abbrev pub narrowed : Bounded → Bounded → Bounded
narrowed x y = record { board = y.board; scoring = y.scoring; lower = int_max x.lower y.lower; upper = int_min x.upper y.upper }

-- of the same board the greater lower and the lesser upper bound, else the given entry
abbrev pub joined : Option Bounded → Bounded → Bounded
joined None given = given
joined (Some old) given = if same_board old given then narrowed old given else given
