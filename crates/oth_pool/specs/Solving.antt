-- When a board is solved.
--     IsSolvable p      the board can be solved: at most 30 of its squares are empty
--     Accepts p workers cells      the board p can be solved, and there can be that number of workers, and of cells
--     Refuses p workers cells e      why it isn't solved: the first cause that holds
use Rattle.std.specs.Prelude.{◌≡◌, ℕ, ◌<◌, ◌≤◌}
use Rattle.oth_rules.specs.Position.{Position, empty_count}
use Rattle.oth_pool.specs.declared.solving.SolveError.{SolveError}
use Rattle.oth_pool.specs.declared.solving.SolveError.TheVariants.{TooManyEmpties, Workers, Cells}
use Rattle.oth_table.specs.Sizes.{IsSizeOrNone}
use Rattle.oth_pieces.specs.Hands.{IsCrew}

abbrev pub IsSolvable : Position → Type 0
IsSolvable p = empty_count p ≤ 30

-- the first that holds, in this order
abbrev pub Refuses : Position → ℕ → ℕ → SolveError → Type 0
Refuses p workers cells (TooManyEmpties n) = (30 < empty_count p) × (n ≡ empty_count p)
Refuses p workers cells Workers = IsSolvable p × ¬ IsCrew workers
Refuses p workers cells Cells = IsSolvable p × IsCrew workers × ¬ IsSizeOrNone cells

abbrev pub Accepts : Position → ℕ → ℕ → Type 0
Accepts p workers cells = IsSolvable p × IsCrew workers × IsSizeOrNone cells
