-- The moves of a board of few empty squares, and what a null window inside the bounds of a board leaves of them.
use Rattle.std.proofs.Common.{◌≡◌, ℕ, ap, ◌∙◌, arith}
use Rattle.std.specs.Prelude.{ℤ, ◌≤ℤ◌, ◌<ℤ◌}
use Rattle.std.proofs.lemmas.Int.{ints, by_lt_z}
use Rattle.oth_rules.specs.Square.{has, word_of}
use Rattle.oth_rules.specs.Position.{Position}
use Rattle.oth_rules.specs.Move.{is_legal}
use Rattle.oth_rules.specs.Laws.{IsLegal}
use Rattle.oth_rules.proofs.SearchLaws.{has-moves}
use Rattle.oth_search.specs.Bounds.Squares.{In}

-- a legal square is one of the word of the moves
pub moves-legal : (p : Position) (moves : ℕ) → moves ≡ word_of (is_legal p) → (s : ℕ) → IsLegal p s → In moves s
moves-legal p moves e s h = record { on_board = h.on_board; member = ap (λ w. has w s) e ∙ has-moves p s h.on_board ∙ h.legal }

pub lower-narrowed : (alpha at found lower upper low high : ℤ) → at ≡ alpha → (at <ℤ found → (low ≡ found) × (high ≡ upper)) → (found ≤ℤ at → (low ≡ lower) × (high ≡ found))
    → lower ≤ℤ alpha → lower ≤ℤ low
lower-narrowed alpha at found lower upper low high e above below inside =
    by_lt_z at found
    (λ h. let m = above h in omega (arith, ints, m.0))
    (λ h. let m = below h in omega (arith, ints, m.0))

pub upper-narrowed : (alpha at found lower upper low high : ℤ) → at ≡ alpha → (at <ℤ found → (low ≡ found) × (high ≡ upper)) → (found ≤ℤ at → (low ≡ lower) × (high ≡ found))
    → alpha <ℤ upper → high ≤ℤ upper
upper-narrowed alpha at found lower upper low high e above below inside =
    by_lt_z at found
    (λ h. let m = above h in omega (arith, ints, m.1))
    (λ h. let m = below h in omega (arith, ints, m.1))
