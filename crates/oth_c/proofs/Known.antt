-- What C is told of a board's moves, by the list of the root's moves: true bounds at each square, and the surest move first.
use Rattle.std.proofs.Common.{◌≡◌, ◌≢◌, ⊎_elim, ◌<◌, ℕ, true, List, map, get_or, All, Contains, refl, sym, ap, subst, ◌∙◌, arith}
use Rattle.std.specs.Prelude.{ℤ, ◌≤ℤ◌, ◌==◌, slice_index_or}
use Rattle.std.specs.List.{AllPairs, IsDistinct}
use Rattle.std.proofs.lemmas.Int.{ints}
use Rattle.std.proofs.lemmas.Bool.{false≢true, false_from_ne_true, cases_lt, eq-eqb}
use Rattle.std.proofs.lemmas.Bool.Decides.{Decides-eqb}
use Rattle.std.proofs.lemmas.List.{length-map, get_or-map, get_or_default}
use Rattle.std.proofs.lemmas.List.FromFn.{get_or-range_with_len, length-range_with_len}
use Rattle.std.proofs.lemmas.List.Kept.{AllPairs-filter}
use Rattle.std.proofs.lemmas.List.Elements.{All-map, All-contains}
use Rattle.std.proofs.lemmas.List.Sorted.{Contains-permutation}
use Rattle.std.proofs.lemmas.Map.Keys.{IsDistinct-IsPermutation, apart_from_distinct}
use Rattle.std.proofs.lemmas.Map.Made.{IsDistinct-from_AllPairs}
use Rattle.oth_rules.specs.declared.scoring.Scoring.{Scoring}
use Rattle.oth_rules.specs.Square.{squares}
use Rattle.oth_rules.specs.Position.{Position}
use Rattle.oth_rules.specs.Move.{is_legal, can_move, after, legal_squares}
use Rattle.oth_rules.specs.Score.{score_of}
use Rattle.oth_rules.specs.Value.{value}
use Rattle.oth_rules.proofs.SearchLaws.{Contains-legal_squares, can_move-legal}
use Rattle.oth_search.specs.declared.root.moves.RootMove.{RootMove}
use Rattle.oth_search.specs.Bounds.Interval.{Encloses}
use Rattle.oth_search.specs.Root.Moves.{Root, IsRootMove, AreRootMoves, IsSurest, known_least, square_of}
use Rattle.oth_search.proofs.RootLemmas.Surest.{some-move, surest-listed, surest-most}
use Rattle.oth_c.specs.Scores.{no_score, IsFirst, AreBounded, AreTold, IsFirstOf}

-- no legal square is listed twice
legal-distinct : (p : Position) → IsDistinct (λ x y. x == y) (legal_squares p)
unfolding legal_squares squares
legal-distinct p = IsDistinct-from_AllPairs Decides-eqb (legal_squares p) (AllPairs-filter (λ x y. x ≢ y) (is_legal p) squares apart)
  where
    apart : AllPairs (λ x y. x ≢ y) squares
    apart i j d below within e =
        let count = length-range_with_len 0 64 in
        let x = get_or-range_with_len 0 64 i d (omega (arith, below, within, count)) in
        let y = get_or-range_with_len 0 64 j d (omega (arith, within, count)) in
        omega (arith, below, x, y, e)

flips : (x y : ℕ) → (x == y) ≡ (y == x)
flips x y = grind arith

-- so the moves to one square are one
same-move : (r : Root) (ms : List RootMove) (m n : RootMove) → AreRootMoves r ms → Contains ms m → Contains ms n → m.square ≡ n.square → m ≡ n
same-move r ms m n h a b e =
    ⊎_elim (λ below. absurd (apart m n a b below e))
    (λ no_more. ⊎_elim (λ below. absurd (apart n m b a below (sym e))) (λ up. one (omega (arith, no_more, up))) (cases_lt b.0 a.0))
    (cases_lt a.0 b.0)
  where
    distinct : IsDistinct (λ x y. x == y) (map square_of ms)
    distinct = IsDistinct-IsPermutation (λ x y. x == y) flips (legal_squares r.board) (map square_of ms) h.squares (legal-distinct r.board)

    place : (x : RootMove) (c : Contains ms x) (d : ℕ) → get_or (map square_of ms) c.0 d ≡ x.square
    place x c d = get_or-map square_of ms c.0 x d c.1 ∙ ap square_of c.2

    apart : (x y : RootMove) (c : Contains ms x) (k : Contains ms y) → c.0 < k.0 → x.square ≡ y.square → ⊥
    apart x y c k below same =
        let no = apart_from_distinct (λ x y. x == y) (map square_of ms) c.0 k.0 0 distinct below (omega (arith, k.1, length-map ms square_of)) in
        false≢true (sym no ∙ eq-eqb _ _ (place x c 0 ∙ same ∙ sym (place y k 0)))

    one : a.0 ≡ b.0 → m ≡ n
    one i = sym a.2 ∙ ap (λ k. slice_index_or ms k m) i ∙ get_or_default ms b.0 m n b.1 ∙ b.2

-- each legal square is listed
listed : (r : Root) (ms : List RootMove) (s : ℕ) → AreRootMoves r ms → s < 64 → is_legal r.board s ≡ true → All (λ m. m.square ≢ s) ms → ⊥
listed r ms s h within legal none =
    All-contains (λ x. x ≢ s) (map square_of ms) s (All-map (λ x. x ≢ s) square_of ms none)
    (Contains-permutation (legal_squares r.board) (map square_of ms) s h.squares (Contains-legal_squares r.board s (record { on_board = within; legal = legal })))
    refl

-- what is told of the moves is true of them
pub told-bounded : (r : Root) (ms : List RootMove) (lower upper : List ℤ) → AreRootMoves r ms → AreTold ms lower upper → AreBounded r.board r.scoring lower upper
told-bounded r ms lower upper h told s within =
    ⊎_elim
    (λ one.
    let m = one.move in
    let move = All-contains (IsRootMove r) ms m h.moves one.listed in
    let board : m.child.board ≡ after r.board s = move.board ∙ ap (after r.board) one.square in
    let P : Position × Scoring → Type 0 = λ x. Encloses m.child.interval.lower m.child.interval.upper (value (score_of x.1) x.0) in
    let b = subst P (λ i. (board i, move.scoring i)) m.child.encloses in (
      (λ legal. record { below = omega (arith, ints, one.least, b.above); above = omega (arith, ints, one.most, b.below) }),
      (λ illegal. absurd (false≢true (sym illegal ∙ sym (ap (is_legal r.board) one.square) ∙ move.legal.legal))),
    ))
    (λ none. ((λ legal. absurd (listed r ms s h within legal none.others)), (λ illegal. (none.least, none.most))))
    (told s within).told

-- and the surest move is one that is known to give as much as any
pub told-first : (r : Root) (ms : List RootMove) (lower upper : List ℤ) (first : ℕ) → AreRootMoves r ms → AreTold ms lower upper → IsFirstOf ms first → IsFirst r.board lower first
told-first r ms lower upper first h told is =
    ⊎_elim
    (λ none. record {
      none = ((λ e. false_from_ne_true (can_move r.board) (some-move r ms h none.0)), (λ e. none.1));
      legal = λ some. absurd (some-move r ms h none.0 some);
      most = λ t within legal. absurd (some-move r ms h none.0 (can_move-legal r.board t (record { on_board = within; legal = legal })));
    })
    (λ one.
    let m = one.0 in
    let here = surest-listed ms m one.1 in
    let move = All-contains (IsRootMove r) ms m h.moves here in
    let on_board : first < 64 = omega (arith, one.2, move.legal.on_board) in
    record {
      none = ((λ e. absurd (omega (arith, e, on_board))), (λ e. absurd (false≢true (sym e ∙ can_move-legal r.board m.square move.legal))));
      legal = λ some. ap (is_legal r.board) one.2 ∙ move.legal.legal;
      most = λ t within legal. most m one.1 one.2 on_board t within legal;
    })
    is
  where
    lower_at : ℕ → ℤ
    lower_at s = slice_index_or lower s no_score

    least : (m : RootMove) → IsSurest ms m → first ≡ m.square → first < 64 → lower_at first ≡ known_least m
    least m surest e within =
        ⊎_elim
        (λ one. one.least ∙ ap known_least (same-move r ms one.move m h one.listed (surest-listed ms m surest) (one.square ∙ e)))
        (λ none. absurd (All-contains (λ x. x.square ≢ first) ms m none.others (surest-listed ms m surest) (sym e)))
        (told first within).told

    most : (m : RootMove) → IsSurest ms m → first ≡ m.square → first < 64 → (t : ℕ) → t < 64 → is_legal r.board t ≡ true → lower_at t ≤ℤ lower_at first
    most m surest e on_board t within legal =
        ⊎_elim
        (λ one. omega (arith, ints, one.least, least m surest e on_board, All-contains (λ x. known_least x ≤ℤ known_least m) ms one.move (surest-most ms m surest) one.listed))
        (λ none. absurd (listed r ms t h within legal none.others))
        (told t within).told
