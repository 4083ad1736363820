-- What the calls of seats promise. A seat is the use of a table, or None.
--     is_held x                  there is a seat
--     seat_code x                what a call answers that needs a seat and nothing else
--     IsOpened cells g u         u is the first use of a table of `cells` cells under this scoring, and has seen nothing
--     Opens g cells x y          where there was no seat there is the first one of a new table
--     Joins x y more more'       where there was no seat there is a further one of the same table
--     Solves, SolvesFully x b a      a is the answer of the board under the table's scoring, as C has it and as the search
--     EnclosesIn, EnclosesFully x b      bounds enclose the board's value under the table's scoring, as C has them and as the search
--     DecidesIn x b alpha        such bounds that tell whether the value is above alpha
--     Leaves R post x y b r      a search of the board from x, of whose result `post` tells, found r and left y
--     IsKept x y                 it is the same seat of the same table, whatever it has seen
--     RefusesCells, RefusesTable, RefusesSeat, RefusesBoard      why a call refuses: the first cause that holds
use Rattle.std.specs.Prelude.{◌≡◌, ℕ, ℤ, pos, ◌+ℤ◌, ◌<◌, ◌≤◌, [], Bool, true, false, if◌then◌else◌, Option, Some, None}
use Rattle.oth_rules.specs.Position.{Position, empty_count}
use Rattle.oth_rules.specs.declared.scoring.Scoring.{Scoring}
use Rattle.oth_rules.specs.Score.{score_of}
use Rattle.oth_rules.specs.Value.{value}
use Rattle.oth_search.specs.Bounds.Interval.{IsInterval, Encloses, Decides}
use Rattle.oth_search.specs.Bounds.Full.{IsFullMinimax}
use Rattle.oth_search.specs.declared.stop.until.Stopped.{Stopped}
use Rattle.oth_search.specs.declared.bounds.answer.Answer.{Answer}
use Rattle.oth_table.specs.SharedTable.{IsSame, Makes}
use Rattle.oth_table.specs.Parts.{Use, fixed_of}
use Rattle.oth_table.specs.Sizes.{IsSize}
use Rattle.oth_c.specs.declared.answer.OthAnswer.{OthAnswer}
use Rattle.oth_c.specs.declared.board.OthBoard.{OthBoard}
use Rattle.oth_c.specs.declared.refusal.Refusal.{Refusal}
use Rattle.oth_c.specs.declared.refusal.Refusal.TheVariants as refusal
use Rattle.oth_c.specs.Answers.{IsAnswer, scoring_of}
use Rattle.oth_c.specs.Boards.{overlaps, position}
use Rattle.oth_c.specs.Codes.{code_of}

abbrev pub is_held : Option Use → Bool
is_held None = false
is_held (Some u) = true

abbrev pub seat_code : Option Use → ℕ
seat_code x = if is_held x then 0 else code_of refusal.NoSeat

abbrev pub IsOpened : ℕ → Scoring → Use → Type 0
IsOpened cells g u = (u.table.cells ≡ cells) × (u.table.terms.scoring ≡ g) × (u.seat.name ≡ 0) × (u.seat.seen ≡ [])

abbrev pub IsOpenedAt : ℕ → Scoring → Option Use → Type 0
IsOpenedAt cells g None = ⊥
IsOpenedAt cells g (Some u) = IsOpened cells g u

abbrev pub Opens : ℕ → ℕ → Option Use → Option Use → Type 0
Opens g cells x y = (is_held x ≡ false) × (g < 2) × IsSize cells × IsOpenedAt cells (scoring_of g) y

abbrev pub Joins : Option Use → Option Use → Option Use → Option Use → Type 0
Joins (Some u) (Some v) None (Some w) = (v.table ≡ u.table) × (w.table ≡ u.table) × IsSame u.seat v.seat × Makes u.seat v.seat w.seat
Joins x y more more' = ⊥

abbrev pub Solves : Option Use → OthBoard → OthAnswer → Type 0
Solves None b a = ⊥
Solves (Some u) b a = (overlaps b ≡ false) × (empty_count (position b) ≤ 30) × IsAnswer (position b) u.table.terms.scoring a

abbrev pub SolvesFully : Option Use → OthBoard → Answer → Type 0
SolvesFully None b a = ⊥
SolvesFully (Some u) b a = (overlaps b ≡ false) × (empty_count (position b) ≤ 30) × IsFullMinimax (position b) u.table.terms.scoring a

abbrev pub EnclosesIn : Option Use → OthBoard → ℤ → ℤ → Type 0
EnclosesIn None b lower upper = ⊥
EnclosesIn (Some u) b lower upper =
    (overlaps b ≡ false)
    × (empty_count (position b) ≤ 30)
    × IsInterval lower upper
    × Encloses lower upper (value (score_of u.table.terms.scoring) (position b))

abbrev pub EnclosesFully : Option Use → OthBoard → Stopped → Type 0
EnclosesFully None b s = ⊥
EnclosesFully (Some u) b s =
    (overlaps b ≡ false)
    × (empty_count (position b) ≤ 30)
    × (s.known.board ≡ position b) × (s.known.scoring ≡ u.table.terms.scoring)
    × (s.moves.board ≡ position b) × (s.moves.scoring ≡ u.table.terms.scoring)

abbrev pub DecidesIn : Option Use → OthBoard → ℤ → ℤ → ℤ → Type 0
DecidesIn x b alpha lower upper = EnclosesIn x b lower upper × Decides lower upper alpha (alpha +ℤ pos 1)

abbrev pub Leaves : (R : Type 0) → (Use → Position → Use × R → Type 0) → Option Use → Option Use → OthBoard → R → Type 0
Leaves R post x y b r =
    (overlaps b ≡ false)
    × (empty_count (position b) ≤ 30)
    × ((u v : Use) × (x ≡ Some u) × (y ≡ Some v) × post u (position b) (v, r))

abbrev pub IsKept : Option Use → Option Use → Type 0
IsKept None y = y ≡ None
IsKept (Some u) None = ⊥
IsKept (Some u) (Some v) = fixed_of v ≡ fixed_of u

abbrev pub RefusesCells : ℕ → Refusal → Type 0
RefusesCells cells refusal.Cells = ¬ IsSize cells
RefusesCells cells refusal.Memory = IsSize cells
RefusesCells cells _ = ⊥

-- a new table at this place, under the scoring of this number
abbrev pub RefusesTable : Option Use → ℕ → ℕ → Refusal → Type 0
RefusesTable x g cells refusal.Taken = is_held x ≡ true
RefusesTable x g cells refusal.Scoring = (is_held x ≡ false) × (2 ≤ g)
RefusesTable x g cells refusal.Cells = (is_held x ≡ false) × (g < 2) × ¬ IsSize cells
RefusesTable x g cells refusal.Memory = (is_held x ≡ false) × (g < 2) × IsSize cells
RefusesTable x g cells _ = ⊥

-- a further seat of this one's table, at the place of `more`
abbrev pub RefusesSeat : Option Use → Option Use → Refusal → Type 0
RefusesSeat x more refusal.NoSeat = is_held x ≡ false
RefusesSeat x more refusal.Taken = (is_held x ≡ true) × (is_held more ≡ true)
RefusesSeat x more refusal.Memory = (is_held x ≡ true) × (is_held more ≡ false)
RefusesSeat x more _ = ⊥

-- a board over this seat's table
abbrev pub RefusesBoard : Option Use → OthBoard → Refusal → Type 0
RefusesBoard x b refusal.Overlap = overlaps b ≡ true
RefusesBoard x b refusal.Empties = (overlaps b ≡ false) × (30 < empty_count (position b))
RefusesBoard x b refusal.NoSeat = (overlaps b ≡ false) × (empty_count (position b) ≤ 30) × (is_held x ≡ false)
RefusesBoard x b _ = ⊥
