-- The squares of a word as a set.
use Rattle.std.proofs.Common.{◌≡◌, ◌+◌, ◌<◌, ℕ, zero, suc, Bool, refl, arith}
use Rattle.std.specs.Prelude.{filter}
use Rattle.std.specs.List.{range_with_len}
use Rattle.oth_rules.specs.Square.{has, squares, word_of}
use Rattle.oth_rules.proofs.Bits.{has-word_of}
use Rattle.oth_text.specs.Report.{squares_of}

filter_same : (f g : ℕ → Bool) (a n : ℕ) → ((s : ℕ) → s < a + n → f s ≡ g s) → filter f (range_with_len a n) ≡ filter g (range_with_len a n)
filter_same f g a zero h = refl
filter_same f g a (suc n) h =
    let rest = filter_same f g (a + 1) n (λ s l. h s (omega arith)) in
    rw (h a (omega arith), rest) refl

-- the squares of a word are those of its set
pub squares_of-word_of : (f : ℕ → Bool) → squares_of (word_of f) ≡ filter f squares
unfolding squares_of squares
squares_of-word_of f = filter_same (has (word_of f)) f 0 64 (λ s l. has-word_of f s (omega arith))
