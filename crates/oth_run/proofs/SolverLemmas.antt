-- A board of at most 30 empty squares is solved by lawful settings.
use Rattle.std.proofs.Common.{ℕ, ◌≤◌, arith}
use Rattle.oth_rules.specs.Position.{Position, empty_count}
use Rattle.oth_pieces.specs.Hands.{IsCrew}
use Rattle.oth_table.specs.Sizes.{IsSizeOrNone}
use Rattle.oth_pool.specs.Solving.{Refuses}
use Rattle.oth_pool.specs.declared.solving.SolveError.{SolveError}
use Rattle.oth_pool.specs.declared.solving.SolveError.TheVariants.{TooManyEmpties, Workers, Cells}

pub never_refused : (p : Position) (workers cells : ℕ) (e : SolveError) → empty_count p ≤ 30 → IsCrew workers → IsSizeOrNone cells → Refuses p workers cells e → ⊥
never_refused p workers cells (TooManyEmpties n) few crew size refused = omega (arith, few, refused.0)
never_refused p workers cells Workers few crew size refused = refused.1 crew
never_refused p workers cells Cells few crew size refused = refused.2 size
