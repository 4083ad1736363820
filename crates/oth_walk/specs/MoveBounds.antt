-- The words by which workers tell each other bounds of the boards after a root's moves.
--     child_value root square      the value of the board after the move to the square
--     limit root i      what word i may tell at most: below 64 the value of the board after the move to square i, from there
--                       on the negated one for square i - 64
--     AreTrue root words      each word, less 64, is at most what it may tell
--     IsOfMove root square s      the move to the square is legal, and s has bounds of the board after it, under the scoring of
--                       the root; of no root there is no such s
use Rattle.std.specs.Prelude.{◌≡◌, ℕ, ◌-◌, ℤ, pos, neg_ℤ, ◌-ℤ◌, ◌≤ℤ◌, List, Option, Some, None, nat_le, if◌then◌else◌, slice_index}
use Rattle.atomic_table.specs.Table.{Me, Step}
use Rattle.oth_rules.specs.Move.{after}
use Rattle.oth_rules.specs.Laws.{IsLegal}
use Rattle.oth_rules.specs.Score.{score_of}
use Rattle.oth_rules.specs.Value.{value}
use Rattle.oth_search.specs.declared.bounds.solved.Solved.{Solved}
use Rattle.oth_pieces.specs.declared.floor.root.Root.{Root}

abbrev pub child_value : Root → ℕ → ℤ
child_value root square = value (score_of root.scoring) (after root.board square)

abbrev pub limit : Root → ℕ → ℤ
limit root i = if nat_le 64 i then neg_ℤ (child_value root (i - 64)) else child_value root i

abbrev pub AreTrue : Root → List ℕ → Type 0
AreTrue root words = (i : ℕ) → (pos (slice_index words i) -ℤ pos 64) ≤ℤ limit root i

-- a seat knows its root, and a step of it finds no more in a word than that may tell
abbrev pub Finds : Step ℕ → Me ℕ Root → ℕ → Me ℕ Root → Type 0
Finds s m found m' = (m'.0 ≡ m.0) × ((pos found -ℤ pos 64) ≤ℤ limit m.0 s.word)

abbrev pub IsOfMove : Option Root → ℕ → Solved → Type 0
IsOfMove None square s = ⊥
IsOfMove (Some root) square s = IsLegal root.board square × (s.board ≡ after root.board square) × (s.scoring ≡ root.scoring)
