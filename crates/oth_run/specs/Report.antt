-- The report of an input.
--     cut input      the lines that a byte 10 ends, without it, and the rest after the last byte 10
--     lines_of input      these lines, and the rest unless it is empty
--     line_number input      the number of the line behind these: lines are counted from 1, up to 2^64 - 1, and stay there
--     ended_report reply input      what is written for the lines that a byte 10 ends: for each its reply, and byte 10
--     report reply input      what is written for all lines, where a rest that is not empty counts as a line
use Rattle.std.specs.Prelude.{ℕ, ◌+◌, ◌==◌, min, if◌then◌else◌, List, [], ◌∷◌, ◌++◌}

-- the lines of an input, and the rest behind them, which no byte 10 ends
pub record Cut : Type 0 where
  pub lines : List (List ℕ)
  pub rest : List ℕ

-- the byte in front of the first line, or of the rest where there is no line
abbrev pub onto_first : ℕ → List (List ℕ) → List ℕ → Cut
onto_first b [] rest = record { lines = []; rest = b ∷ rest }
onto_first b (line ∷ lines) rest = record { lines = (b ∷ line) ∷ lines; rest = rest }

-- an empty line in front
abbrev pub after_end : Cut → Cut
after_end c = record { lines = [] ∷ c.lines; rest = c.rest }

unfoldable pub cut : List ℕ → Cut
cut [] = record { lines = []; rest = [] }
cut (b ∷ bs) = if b == 10 then after_end (cut bs) else onto_first b (cut bs).lines (cut bs).rest

-- what no byte 10 ends counts as a line unless it is empty
abbrev pub last_line : List ℕ → List (List ℕ)
last_line [] = []
last_line (b ∷ bs) = (b ∷ bs) ∷ []

abbrev pub lines_of : List ℕ → List (List ℕ)
lines_of input = (cut input).lines ++ last_line (cut input).rest

-- the number of the next line: one more, but at most 2^64 - 1
abbrev pub next_number : ℕ → ℕ
next_number n = min (n + 1) 18446744073709551615

-- the number behind lines of which the first has number n
abbrev pub number_behind : ℕ → List (List ℕ) → ℕ
number_behind n [] = n
number_behind n (line ∷ lines) = number_behind (next_number n) lines

abbrev pub line_number : List ℕ → ℕ
line_number input = number_behind 1 (cut input).lines

-- a reply may look at the number of its line
module _ (reply : ℕ → List ℕ → List ℕ) where
  -- the reply to line number n, and byte 10
  abbrev pub with_end : ℕ → List ℕ → List ℕ
  with_end n line = reply n line ++ 10 ∷ []

  -- what is written for lines of which the first has number n
  abbrev pub report_from : ℕ → List (List ℕ) → List ℕ
  report_from n [] = []
  report_from n (line ∷ lines) = with_end n line ++ report_from (next_number n) lines

  unfoldable pub ended_report : List ℕ → List ℕ
  ended_report input = report_from 1 (cut input).lines

  -- what no byte 10 ends counts as a line unless it is empty
  abbrev pub last_report : ℕ → List ℕ → List ℕ
  last_report n [] = []
  last_report n (b ∷ bs) = with_end n (b ∷ bs)

  unfoldable pub report : List ℕ → List ℕ
  report input = ended_report input ++ last_report (line_number input) (cut input).rest
