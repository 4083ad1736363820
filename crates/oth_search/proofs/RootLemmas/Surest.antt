-- The surest move of a list as the list grows, and that there is one exactly where the root's mover has a move.
use Rattle.std.proofs.Common.{◌≡◌, List, [], ◌∷◌, All, Contains, true, length, map, append_assoc, length-append, refl, ap, subst, sym, ◌∙◌, arith}
use Rattle.std.specs.Prelude.{◌≤ℤ◌, ◌<ℤ◌}
use Rattle.std.specs.List.{push}
use Rattle.std.specs.declared.option.Option.{Option}
use Rattle.std.specs.Option.{MatchOption}
use Rattle.std.proofs.lemmas.Int.{ints}
use Rattle.std.proofs.lemmas.List.{length-map, get_or_at}
use Rattle.std.proofs.lemmas.List.Elements.{All-nil, All-cons, All-push, All-append}
use Rattle.std.proofs.lemmas.List.Sorted.{Contains-permutation}
use Rattle.oth_rules.specs.Move.{can_move, legal_squares}
use Rattle.oth_rules.proofs.SearchLaws.{some_legal, Contains-legal_squares}
use Rattle.oth_search.specs.declared.root.moves.RootMove.{RootMove}
use Rattle.oth_search.specs.Root.Moves.{Root, AreRootMoves, IsSurest, known_least, square_of}

-- of what the moves of a list have: the surest one, or that there is none
abbrev pub HasSurest : List RootMove → Option RootMove → Type 0
HasSurest ms found = MatchOption found (ms ≡ []) (IsSurest ms)

-- the one move of a list
pub surest-first : (ms : List RootMove) (m : RootMove) → ms ≡ [] → IsSurest (push ms m) m
surest-first ms m none = subst (λ xs. IsSurest (push xs m) m) (sym none) (record {
  before = [];
  behind = [];
  listed = refl;
  less = All-nil (λ x. known_least x <ℤ known_least m);
  no_more = All-nil (λ x. known_least x ≤ℤ known_least m);
})

-- a move that is known to give no more changes nothing
pub surest-kept : (ms : List RootMove) (m n : RootMove) → IsSurest ms m → known_least n ≤ℤ known_least m → IsSurest (push ms n) m
surest-kept ms m n h no_more = record {
  before = h.before;
  behind = push h.behind n;
  listed = ap (λ xs. push xs n) h.listed ∙ append_assoc h.before (m ∷ h.behind) (n ∷ []);
  less = h.less;
  no_more = All-push (λ x. known_least x ≤ℤ known_least m) h.behind n h.no_more no_more;
}

-- one that is known to give more takes its place
pub surest-next : (ms : List RootMove) (m n : RootMove) → IsSurest ms m → known_least m <ℤ known_least n → IsSurest (push ms n) n
surest-next ms m n h more = record {
  before = ms;
  behind = [];
  listed = refl;
  less = subst (All (λ x. known_least x <ℤ known_least n)) (sym h.listed)
      (All-append (λ x. known_least x <ℤ known_least n) h.before (m ∷ h.behind)
      (λ k d within. let l = h.less k d within in omega (arith, ints, l, more))
      (All-cons (λ x. known_least x <ℤ known_least n) m h.behind more
      (λ k d within. let l = h.no_more k d within in omega (arith, ints, l, more))));
  no_more = All-nil (λ x. known_least x ≤ℤ known_least n);
}

-- it is listed
pub surest-listed : (ms : List RootMove) (m : RootMove) → IsSurest ms m → Contains ms m
surest-listed ms m h = subst (λ xs. Contains xs m) (sym h.listed)
    (length h.before, omega (arith, length-append h.before (m ∷ h.behind)), get_or_at h.before m h.behind m (length h.before) refl)

-- and no listed move is known to give more
pub surest-most : (ms : List RootMove) (m : RootMove) → IsSurest ms m → All (λ x. known_least x ≤ℤ known_least m) ms
surest-most ms m h =
    subst (All (λ x. known_least x ≤ℤ known_least m)) (sym h.listed)
    (All-append (λ x. known_least x ≤ℤ known_least m) h.before (m ∷ h.behind)
    (λ k d within. let l = h.less k d within in omega (arith, ints, l))
    (All-cons (λ x. known_least x ≤ℤ known_least m) m h.behind (omega (arith, ints)) h.no_more))

-- where the mover has a move, one is listed
pub some-move : (r : Root) (ms : List RootMove) → AreRootMoves r ms → ms ≡ [] → can_move r.board ≡ true → ⊥
some-move r ms h none some =
    let one = some_legal r.board some in
    let listed : Contains (map square_of ms) one.0 = Contains-permutation (legal_squares r.board) (map square_of ms) one.0 h.squares (Contains-legal_squares r.board one.0 one.1) in
    let count : length ms ≡ 0 = ap length none in
    omega (arith, listed.1, length-map ms square_of, count)
