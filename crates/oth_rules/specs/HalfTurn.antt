-- The board turned by half a turn, which is symmetry 3: square q comes to stand on 63 - q.
--     half_turned w      the word with each of its squares so carried
--     twin w      the word, and beside it the same turned by half a turn
use Rattle.std.specs.Prelude.{ℕ, List, [], ◌∷◌}
use Rattle.oth_rules.specs.Symmetry.{map_word}

unfoldable pub half_turned : ℕ → ℕ
half_turned w = map_word 3 w

abbrev pub twin : ℕ → List ℕ
twin w = w ∷ half_turned w ∷ []
