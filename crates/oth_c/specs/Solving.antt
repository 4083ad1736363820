-- When a board is solved.
--     Accepts b g cells      it is solved
--     Refuses b g cells r      why it isn't: the first cause that holds
use Rattle.std.specs.Prelude.{◌≡◌, ℕ, ◌<◌, ◌≤◌, true, false}
use Rattle.oth_rules.specs.Position.{empty_count}
use Rattle.oth_table.specs.Sizes.{IsSizeOrNone}
use Rattle.oth_c.specs.declared.board.OthBoard.{OthBoard}
use Rattle.oth_c.specs.declared.refusal.Refusal.{Refusal}
use Rattle.oth_c.specs.declared.refusal.Refusal.TheVariants as refusal
use Rattle.oth_c.specs.Boards.{overlaps, position}

abbrev pub IsSolvable : OthBoard → ℕ → Type 0
IsSolvable b g = (overlaps b ≡ false) × (g < 2) × (empty_count (position b) ≤ 30)

abbrev pub Accepts : OthBoard → ℕ → ℕ → Type 0
Accepts b g cells = IsSolvable b g × IsSizeOrNone cells

-- the first that holds, in this order
abbrev pub Refuses : OthBoard → ℕ → ℕ → Refusal → Type 0
Refuses b g cells refusal.Overlap = overlaps b ≡ true
Refuses b g cells refusal.Scoring = (overlaps b ≡ false) × (2 ≤ g)
Refuses b g cells refusal.Empties = (overlaps b ≡ false) × (g < 2) × (30 < empty_count (position b))
Refuses b g cells refusal.Cells = IsSolvable b g × ¬ IsSizeOrNone cells
Refuses b g cells _ = ⊥
