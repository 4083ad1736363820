-- The moves of a root.
--     Root      a board that is searched, and the scoring of its values
--     IsRootMove r m      the move is legal, and its child is the board after it, under the scoring of the root
--     AreRootMoves r ms      each legal move of the root once, in any order, with the board after it
--     known_least m      what the move is known to give at least, for who moves
--     IsSurest ms m      m is the first of those moves in the list that are known to give the most
use Rattle.std.specs.Prelude.{◌≡◌, ℕ, ℤ, neg_ℤ, ◌<ℤ◌, ◌≤ℤ◌, List, ◌∷◌, ◌++◌, map}
use Rattle.std.specs.List.{All}
use Rattle.std.specs.List.Sorted.{IsPermutation}
use Rattle.oth_rules.specs.declared.scoring.Scoring.{Scoring}
use Rattle.oth_rules.specs.Position.{Position}
use Rattle.oth_rules.specs.Move.{legal_squares, after}
use Rattle.oth_rules.specs.Laws.{IsLegal}
use Rattle.oth_search.specs.declared.root.moves.RootMove.{RootMove}

pub record Root : Type 0 where
  pub board : Position
  pub scoring : Scoring

pub record IsRootMove (r : Root) (m : RootMove) : Type 0 where
  pub legal : IsLegal r.board m.square
  pub board : m.child.board ≡ after r.board m.square
  pub scoring : m.child.scoring ≡ r.scoring

-- where a move is played
abbrev pub square_of : RootMove → ℕ
square_of m = m.square

pub record AreRootMoves (r : Root) (ms : List RootMove) : Type 0 where
  pub squares : IsPermutation (legal_squares r.board) (map square_of ms)
  pub moves : All (IsRootMove r) ms

abbrev pub known_least : RootMove → ℤ
known_least m = neg_ℤ m.child.interval.upper

pub record IsSurest (ms : List RootMove) (m : RootMove) : Type 0 where
  pub before : List RootMove
  pub behind : List RootMove
  pub listed : ms ≡ before ++ m ∷ behind
  pub less : All (λ x. known_least x <ℤ known_least m) before
  pub no_more : All (λ x. known_least x ≤ℤ known_least m) behind
