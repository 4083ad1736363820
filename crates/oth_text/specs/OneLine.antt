-- A text that is one line.
use Rattle.std.specs.Prelude.{ℕ, List, ◌≢◌}
use Rattle.std.specs.List.{All}

-- it carries no byte 10
abbrev pub IsOneLine : List ℕ → Type 0
IsOneLine text = All (λ b. b ≢ 10) text
