-- Boards whose moves and values are known, computed from the definitions.
use Rattle.std.proofs.Common.{◌≡◌, ◌+◌, ◌^◌, [], ◌∷◌, negsuc, refl}
use Rattle.std.specs.Prelude.{filter}
use Rattle.oth_rules.specs.Square.{squares, has, word_below, word_of, directions, stepped, square_at, next, ray_from, ray, is_in}
use Rattle.oth_rules.specs.Position.{Position, cell, is_mine_cell, is_theirs_cell, is_empty_cell, is_mine, is_theirs, is_empty, position_of, opposite_cell, pass, mine_count, theirs_count, empty_count}
use Rattle.oth_rules.specs.Move.{starts_with_mine, outflanked, flipped_along, is_flipped, is_legal, legal_squares, can_move, is_over, after}
use Rattle.oth_rules.specs.Score.{disc_difference, winner_score}
use Rattle.oth_rules.specs.Value.{greatest, value_within, value, is_best}

start : Position
start = record { own = 2 ^ 28 + 2 ^ 35; opp = 2 ^ 27 + 2 ^ 36 }

start_moves : legal_squares start ≡ 19 ∷ 26 ∷ 37 ∷ 44 ∷ []
unfolding start squares has directions stepped square_at next ray_from ray is_in cell is_mine_cell is_theirs_cell is_empty_cell is_mine is_theirs is_empty starts_with_mine outflanked
    flipped_along is_flipped is_legal legal_squares
start_moves = refl

-- row 1 `--OXOOO-` and all other cells theirs: three empty squares
board_a : Position
board_a = record { own = 0x8; opp = 0xffffffffffffff74 }

a_value : value winner_score board_a ≡ negsuc 49
unfolding board_a squares has word_below word_of directions stepped square_at next ray_from ray is_in cell is_mine_cell is_theirs_cell is_empty_cell is_mine is_theirs is_empty
    position_of opposite_cell pass mine_count theirs_count empty_count starts_with_mine outflanked flipped_along is_flipped is_legal legal_squares can_move is_over after disc_difference
    winner_score greatest value_within value
a_value = refl

a_best : filter (is_best winner_score board_a) squares ≡ 7 ∷ []
unfolding board_a squares has word_below word_of directions stepped square_at next ray_from ray is_in cell is_mine_cell is_theirs_cell is_empty_cell is_mine is_theirs is_empty
    position_of opposite_cell pass mine_count theirs_count empty_count starts_with_mine outflanked flipped_along is_flipped is_legal legal_squares can_move is_over after disc_difference
    winner_score greatest value_within value is_best
a_best = refl
