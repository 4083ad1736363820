-- The numbers of cells that may be asked for.
--     IsSize cells             a table can have that number of cells
--     IsSizeOrNone cells       as IsSize, or 0 for no table
use Rattle.std.specs.Prelude.{◌≡◌, ◌⊎◌, ℕ, ◌^◌, ◌≤◌}

-- 1, 2, 4 .. 262144
abbrev pub IsSize : ℕ → Type 0
IsSize cells = (k : ℕ) × (k ≤ 18) × (cells ≡ 2 ^ k)

abbrev pub IsSizeOrNone : ℕ → Type 0
IsSizeOrNone cells = (cells ≡ 0) ⊎ IsSize cells
