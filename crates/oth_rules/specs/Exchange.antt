-- Where the private helpers over whole words carry a square.
--     exchanged_square mask shift q      squares of the mask change places with those `shift` further
--     mirrored_square, flipped_square, transposed_square      columns turned round; rows turned round; columns and rows changed
use Rattle.std.specs.Prelude.{ℕ, ◌+◌, ◌-◌, ◌*◌, ◌/◌, ◌%◌, if◌then◌else◌, nat_le, ◌&&◌}
use Rattle.oth_rules.specs.Square.{has}

unfoldable pub exchanged_square : ℕ → ℕ → ℕ → ℕ
exchanged_square mask shift q =
    if has mask q then q + shift else if nat_le shift q && has mask (q - shift) then q - shift else q

unfoldable pub mirrored_square : ℕ → ℕ
mirrored_square q = 8 * (q / 8) + (7 - q % 8)

unfoldable pub flipped_square : ℕ → ℕ
flipped_square q = 8 * (7 - q / 8) + q % 8

unfoldable pub transposed_square : ℕ → ℕ
transposed_square q = 8 * (q % 8) + q / 8
