-- the line so far has a cell for each square so far
use Rattle.std.proofs.Common.{◌≡◌, ◌<◌, ℕ, length, slice_index}
use Rattle.oth_text.specs.Discs.{disc_byte}
use Rattle.oth_text.proofs.board_line.write_board.Given as goal

abbrev pub invariant-loop-n : goal.invariant-loop-n
invariant-loop-n l = record {
  len : length l.line.items ≡ l.n;
  cells : (k : ℕ) → k < l.n → slice_index l.line.items k ≡ disc_byte l.black l.white k;
}
