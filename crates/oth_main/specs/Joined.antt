-- Sources that are read one after the other, and the lines of their bytes.
--     ended begun text      the text with a byte 10 behind it, unless it ends with one; of an empty text, if a line has begun before it
--     begun_after begun bytes      whether a line has begun behind the bytes: the last of them isn't 10, or there is none and one has begun
--     joined begun first others      what several sources have left, of whose first one a line has begun: each but the last is ended
use Rattle.std.specs.Prelude.{ℕ, ◌==◌, Bool, not, false, if◌then◌else◌, List, [], ◌∷◌, Option, Some, None}
use Rattle.std.specs.Io.KnownBytes.{prepend_known}

unfoldable pub ended : Bool → List ℕ → List ℕ
ended begun [] = if begun then 10 ∷ [] else []
ended begun (b ∷ bs) = b ∷ ended (not (b == 10)) bs

unfoldable pub begun_after : Bool → List ℕ → Bool
begun_after begun [] = begun
begun_after begun (b ∷ bs) = begun_after (not (b == 10)) bs

-- bytes are known where each source tells its own
unfoldable pub joined : Bool → Option (List ℕ) → List (Option (List ℕ)) → Option (List ℕ)
joined begun first [] = first
joined begun None (next ∷ others) = None
joined begun (Some text) (next ∷ others) = prepend_known (ended begun text) (joined false next others)
