-- what is left fits as the whole does
use Rattle.std.proofs.Common.{◌≡◌, ◌≤◌, length}
use Rattle.oth_book.specs.Shape.{fit_of, shape_len}
use Rattle.oth_book.proofs.ShapeLemmas.{rest_fit}
use Rattle.oth_book.proofs.text.shape.fit_of.Given as goal

abbrev pub invariant-loop-place : goal.invariant-loop-place
invariant-loop-place l = record {
  so_far : fit_of l.shape l.bytes ≡ rest_fit l.shape (shape_len l.shape) l.place l.bytes;
  within : l.place ≤ length l.bytes;
}
