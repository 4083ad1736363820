-- The room that the host lends for a text.
--     written text room      what stands in the room afterwards: in front the text, where there is room for all of it, else what was there
use Rattle.std.specs.Prelude.{ℕ, List, ◌++◌, drop, length, nat_lt, if◌then◌else◌}

abbrev pub written : List ℕ → List ℕ → List ℕ
written text room = if nat_lt (length room) (length text) then room else text ++ drop (length text) room
