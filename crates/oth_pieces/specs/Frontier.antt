-- The boards one or two plies below a root.
--     awake p      the position after a forced pass, if there is one
--     one_ply root, two_plies root      the items below, by rising squares; one that is over after one ply stands itself
--     frontier plies root      one or two plies below
-- An item is a board, the root's move that leads to it, and whether its mover is the root's.
use Rattle.std.specs.Prelude.{◌≡◌, ◌⊎◌, ℕ, Bool, true, ◌&&◌, ◌==◌, not, if◌then◌else◌, List, [], ◌∷◌, map, flat_map}
use Rattle.oth_rules.specs.Position.{Position, pass}
use Rattle.oth_rules.specs.Move.{is_legal, legal_squares, can_move, is_over, after}
use Rattle.oth_pieces.specs.declared.frontier.item.Item.{Item}

-- only the other side can move
abbrev pub only_passes : Position → Bool
only_passes p = not (can_move p) && can_move (pass p)

-- the position after a forced pass, if there is one
abbrev pub awake : Position → Position
awake p = if only_passes p then pass p else p

-- after a move the other side is to move, unless it passes
abbrev pub item_after : Item → Position → Item
item_after parent p = record {
  board = awake p;
  square = parent.square;
  same_mover = if only_passes p then parent.same_mover else not parent.same_mover;
}

-- the item after a move, where it is legal
abbrev pub child_of : Item → ℕ → List Item
child_of parent s = if is_legal parent.board s then item_after parent (after parent.board s) ∷ [] else []

-- the items one ply below an item, by rising square
abbrev pub children : Item → List Item
children parent = map (λ s. item_after parent (after parent.board s)) (legal_squares parent.board)

abbrev pub move_of : Position → ℕ → Item
move_of root s = item_after (record { board = root; square = s; same_mover = true }) (after root s)

-- of a root that needn't pass
abbrev pub moves_of : Position → List Item
moves_of root = map (move_of root) (legal_squares root)

abbrev pub one_ply : Position → List Item
one_ply root = moves_of (awake root)

-- an item that is over stands itself
abbrev pub below : Item → List Item
below i = if is_over i.board then i ∷ [] else children i

abbrev pub two_plies : Position → List Item
two_plies root = flat_map below (one_ply root)

abbrev pub IsPlies : ℕ → Type 0
IsPlies plies = (plies ≡ 1) ⊎ (plies ≡ 2)

abbrev pub board_of : Item → Position
board_of i = i.board

abbrev pub frontier : ℕ → Position → List Item
frontier plies root = if plies == 1 then one_ply root else two_plies root
