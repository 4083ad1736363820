-- The moves of a root as a list: how it grows, and that it stays what it is where a bound is closer or the order changes.
use Rattle.std.proofs.Common.{◌≡◌, ℕ, ◌+◌, ◌<◌, List, [], ◌∷◌, ◌++◌, length, map, take, get_or, slice_set, append-nil, zero, suc, true, false, arith, refl, ap, sym, subst, ◌∙◌}
use Rattle.std.specs.Prelude.{◌==◌}
use Rattle.std.specs.List.{All, refill}
use Rattle.std.proofs.lemmas.Bool.{false≢true}
use Rattle.std.specs.List.Sorted.{IsPermutation}
use Rattle.std.proofs.lemmas.List.{take_all, drop_all, take_more, map-append, length-map, get_or-map}
use Rattle.std.proofs.lemmas.List.Elements.{All-push, All-set, All-get_or}
use Rattle.std.proofs.lemmas.List.Sorted.{IsPermutation-map, IsPermutation-trans, All-permutation, length_permutation}
use Rattle.std.proofs.Math.Seq.{map-set_same}
use Rattle.oth_rules.specs.declared.scoring.Scoring.{Scoring}
use Rattle.oth_rules.specs.Position.{Position}
use Rattle.oth_rules.specs.Move.{legal_squares, can_move}
use Rattle.oth_rules.proofs.SearchLaws.{can_move-legal}
use Rattle.oth_search.specs.declared.bounds.solved.Solved.{Solved}
use Rattle.oth_search.specs.declared.root.moves.RootMove.{RootMove}
use Rattle.oth_search.specs.Root.Moves.{Root, IsRootMove, square_of, AreRootMoves}
use Rattle.oth_search.proofs.BoundsLemmas.SquareSets.{FromPlace, Takes, Takes-next}

-- the first moves of the root in the order of the squares
pub record Listed (r : Root) (squares : List ℕ) (i : ℕ) (ms : List RootMove) : Type 0 where
  pub so_far : map square_of ms ≡ take i squares
  pub moves : All (IsRootMove r) ms

pub Listed-more : (r : Root) (squares : List ℕ) (i : ℕ) (ms all : List RootMove) (m : RootMove) → Listed r squares i ms → i < length squares → m.square ≡ get_or squares i m.square
    → IsRootMove r m → all ≡ ms ++ m ∷ [] → Listed r squares (i + 1) all
Listed-more r squares i ms all m l within is one e = record {
  so_far = ap (map square_of) e ∙ map-append square_of ms (m ∷ []) ∙ ap (λ xs. xs ++ m.square ∷ []) l.so_far
      ∙ ap (λ s. take i squares ++ s ∷ []) is ∙ sym (take_more squares i m.square within);
  moves = subst (All (IsRootMove r)) (sym e) (All-push (IsRootMove r) ms m l.moves one);
}

-- a list that takes the place of one of its length
refill-whole : {X : Type 0} (xs ws : List X) → length ws ≡ length xs → refill (length xs) xs ws ≡ ws
refill-whole xs ws e = ap (λ zs. take (length xs) (ws ++ zs)) (drop_all (length ws) xs (omega (arith, e))) ∙ ap (take (length xs)) (append-nil ws) ∙ take_all (length xs) ws (omega (arith, e))

-- in another order
pub reordered : (r : Root) (xs ys ws : List RootMove) → ys ≡ xs → IsPermutation ys ws → AreRootMoves r xs → AreRootMoves r (refill (length xs) xs ws)
reordered r xs ys ws e p h =
    let q : IsPermutation xs ws = rw e at p in
    subst (AreRootMoves r) (sym (refill-whole xs ws (length_permutation xs ws q))) (record {
      squares = IsPermutation-trans (legal_squares r.board) (map square_of xs) (map square_of ws) h.squares (IsPermutation-map square_of xs ws q);
      moves = All-permutation (IsRootMove r) xs ws q h.moves;
    })

-- one of them
pub root_move-at : (r : Root) (ms : List RootMove) (i : ℕ) (m : RootMove) → i < length ms → m ≡ get_or ms i m → AreRootMoves r ms → IsRootMove r m
root_move-at r ms i m within is h = subst (IsRootMove r) (sym is) (All-get_or (IsRootMove r) ms i m within h.moves)

-- with other bounds of one board
pub narrowed : (r : Root) (xs ys : List RootMove) (i : ℕ) (m : RootMove) (child : Solved) → ys ≡ xs → i < length xs → m ≡ get_or xs i m → child.board ≡ m.child.board
    → child.scoring ≡ m.child.scoring → AreRootMoves r xs → AreRootMoves r (refill (length xs) xs (slice_set ys i (record { square = m.square; child = child })))
narrowed r xs ys i m child e within is board scoring h = rw e whole
  where
    closer : RootMove
    closer = record { square = m.square; child = child }

    one : IsRootMove r closer
    one =
        let old = root_move-at r xs i m within is h in
        record { legal = old.legal; board = board ∙ old.board; scoring = scoring ∙ old.scoring }

    same : map square_of (slice_set xs i closer) ≡ map square_of xs
    same = map-set_same square_of xs i closer m (ap square_of is)

    whole : AreRootMoves r (refill (length xs) xs (slice_set xs i closer))
    whole =
        subst (AreRootMoves r) (sym (refill-whole xs (slice_set xs i closer) (sym (length-map (slice_set xs i closer) square_of) ∙ ap length same ∙ length-map xs square_of))) (record {
          squares = subst (IsPermutation (legal_squares r.board)) (sym same) h.squares;
          moves = All-set (IsRootMove r) xs i closer one h.moves;
        })

-- the next move takes its square from those of the rest of the list
pub Takes-move : (ms : List RootMove) (i : ℕ) (m : RootMove) → i < length ms → m ≡ get_or ms i m → Takes (FromPlace (map square_of ms) i) m.square (FromPlace (map square_of ms) (i + 1))
Takes-move ms i m within is =
    Takes-next (map square_of ms) i m.square (omega (arith, within, length-map ms square_of)) (sym (get_or-map square_of ms i m m.square within ∙ ap square_of (sym is)))

-- a root with a move
pub some-listed : (n : ℕ) → false ≡ (n == 0) → 0 < n
some-listed zero h = absurd (false≢true h)
some-listed (suc n) h = omega arith

pub can_move-some : (r : Root) (ms : List RootMove) → 0 < length ms → AreRootMoves r ms → can_move r.board ≡ true
can_move-some r [] some h = absurd (omega (arith, some))
can_move-some r (m ∷ ms) some h = can_move-legal r.board m.square (root_move-at r (m ∷ ms) 0 m some refl h).legal

-- a root under other names
pub of_root : (r : Root) (p : Position) (g : Scoring) (ms : List RootMove) → p ≡ r.board → g ≡ r.scoring → AreRootMoves r ms → AreRootMoves (record { board = p; scoring = g }) ms
of_root r p g ms e f h = rw (e, f) h
