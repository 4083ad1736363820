-- The two cells of a board, and which of them takes a store.
--     place_of p cells       the first cell of the board: the highest bits of a sum of two products of its words, as many bits as
--                            number the cells
--     second_of p cells      its second cell: the place with its lowest bit changed, and the place itself in a table of one cell
--     entry_in found p       the entry of the board p, if a look found it
--     picks_second f g p     whether a store of p goes to the second cell, after the looks f and g at the first and the second
--     picked_of cells f g p  the cell to which it goes
use Rattle.std.specs.Prelude.{ℕ, ◌+◌, ◌-◌, ◌*◌, ◌/◌, ◌%◌, ◌^◌, ◌==◌, ◌&&◌, Bool, true, false, if◌then◌else◌, nat_lt, Option, Some, None}
use Rattle.oth_rules.specs.Position.{Position, empty_count}
use Rattle.oth_search.specs.Bounds.Entry.{Bounded}
use Rattle.oth_table.specs.declared.table.Look.{Look}
use Rattle.oth_table.specs.declared.table.Look.TheVariants.{Empty, Whole, Busy}

-- own * 9e3779b97f4a7c15 + opposing * c2b2ae3d27d4eb4f modulo 2^64, the factors in hexadecimal
abbrev pub hash_of : Position → ℕ
hash_of p = (p.own * 11400714819323198485 + p.opp * 14029467366897019727) % 2 ^ 64

-- the highest k of its 64 bits in a table of 2^k cells
abbrev pub place_of : Position → ℕ → ℕ
place_of p cells = hash_of p / (2 ^ 64 / cells)

-- the other cell of its pair: the pairs are 0 and 1, 2 and 3, and so on
abbrev pub neighbour : ℕ → ℕ
neighbour c = if c % 2 == 0 then c + 1 else c - 1

abbrev pub second_of : Position → ℕ → ℕ
second_of p cells = if cells == 1 then place_of p cells else neighbour (place_of p cells)

-- an entry of the board was found
abbrev pub is_whole_of : Look → Position → Bool
is_whole_of (Whole x) p = (x.board.own == p.own) && (x.board.opp == p.opp)
is_whole_of _ p = false

abbrev pub entry_in : Look → Position → Option Bounded
entry_in (Whole x) p = if (x.board.own == p.own) && (x.board.opp == p.opp) then Some x else None
entry_in _ p = None

-- the second cell is better for a store: an empty cell before a full one, the entry with more discs, an entry before a busy cell
abbrev pub is_better : Look → Look → Bool
is_better Empty g = false
is_better (Whole x) Empty = true
is_better (Whole x) (Whole y) = nat_lt (empty_count y.board) (empty_count x.board)
is_better (Whole x) Busy = false
is_better Busy Empty = true
is_better Busy (Whole y) = true
is_better Busy Busy = false

abbrev pub picks_second : Look → Look → Position → Bool
picks_second f g p = if is_whole_of f p then false else if is_whole_of g p then true else is_better f g

-- the cell that takes a store of the board
abbrev pub picked_of : ℕ → Look → Look → Position → ℕ
picked_of cells first other p = if picks_second first other p then second_of p cells else place_of p cells
