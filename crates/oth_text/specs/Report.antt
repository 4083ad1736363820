-- The lines that are printed of a board: its moves, or its value and best moves.
--     square_name s      the column's letter and the row's digit
--     names squares      the names of squares, with a space between each two
--     moves_line_of b      all legal moves in rising number, or `pass`, or `end`
--     report_line_of g b      the value under the scoring g with its sign, a space, and all best moves, or `pass`, or `end`
use Rattle.std.specs.Prelude.{ℕ, ℤ, pos, negsuc, ◌+◌, ◌%◌, ◌/◌, List, [], ◌∷◌, ◌++◌, map, filter, codes, decimal, unsigned_abs}
use Rattle.std.specs.List.{join_with_byte}
use Rattle.oth_rules.specs.Square.{squares, has}
use Rattle.oth_rules.specs.Position.{Position}
use Rattle.oth_rules.specs.Move.{legal_squares}
use Rattle.oth_rules.specs.Score.{score_of}
use Rattle.oth_rules.specs.Value.{value, is_best}
use Rattle.oth_rules.specs.declared.scoring.Scoring.{Scoring}
use Rattle.oth_search.specs.Bounds.Answer.{kind_of}
use Rattle.oth_search.specs.declared.bounds.kind.Kind.{Kind}
use Rattle.oth_search.specs.declared.bounds.kind.Kind.TheVariants.{Move, Pass, End}

abbrev pub square_name : ℕ → List ℕ
square_name s = (97 + s % 8) ∷ (49 + s / 8) ∷ []

abbrev pub names : List ℕ → List ℕ
names line = join_with_byte 32 (map square_name line)

-- the squares of a word, in rising number
unfoldable pub squares_of : ℕ → List ℕ
squares_of word = filter (has word) squares

-- the moves, or why there is none
abbrev pub moves_or_word : Kind → List ℕ → List ℕ
moves_or_word Move moves = names moves
moves_or_word Pass moves = codes "pass"
moves_or_word End moves = codes "end"

unfoldable pub moves_line_of : Position → List ℕ
moves_line_of b = moves_or_word (kind_of b) (legal_squares b)

-- + or -, and + for zero
abbrev pub sign_byte : ℤ → ℕ
sign_byte (pos n) = 43
sign_byte (negsuc n) = 45

-- the sign, which zero has too, and the plain decimal
abbrev pub score_text : ℤ → List ℕ
score_text score = sign_byte score ∷ decimal (unsigned_abs score)

-- the squares of all best moves under the scoring g, rising
unfoldable pub best_squares : Scoring → Position → List ℕ
best_squares g b = filter (is_best (score_of g) b) squares

unfoldable pub report_line_of : Scoring → Position → List ℕ
report_line_of g b = score_text (value (score_of g) b) ++ 32 ∷ moves_or_word (kind_of b) (best_squares g b)
