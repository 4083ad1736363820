-- The passes of all hands, given back deque by deque.
use Rattle.std.proofs.Common.{◌≡◌, ℕ, zero, suc, ◌+◌, ◌-◌, ◌<◌, ◌≤◌, Bool, true, false, List, [], ◌∷◌, ◌++◌, length, get_or, take, sym, refl, ap, ◌∙◌}
use Rattle.std.proofs.Common.{subst, arith, slice_index_or, vec_len, nat_le, if◌then◌else◌, ◌%◌, ◌==◌, length-append, length-take}
use Rattle.std.specs.List.{sum_by}
use Rattle.std.proofs.lemmas.List.Sums.{sum_by-cons, sum_by_push}
use Rattle.std.proofs.lemmas.Bool.Decides.{nat_tests}
use Rattle.crossbeam_deque.specs.Handles.{IsPassOf, worker_deque, worker_view}
use Rattle.oth_pieces.specs.Dealing.{times, IsFair}
use Rattle.oth_pieces.specs.Hands.{taken_with}
use Rattle.oth_pieces.specs.Settling.{Token, Owner, Pile, pile_sum, owner_taken, owner_sum, LastAreOf, SameOwner, Shortens, KnowsItsOwn, IsUnsettled}

-- the first i piles gave their last pass to the owner
pub record Gathering (owner : Owner) (piles : List Pile) (owner' : Owner) (piles' : List Pile) (i : ℕ) : Type 0 where
  pub same : SameOwner owner owner'
  pub long : length piles' ≡ length piles
  pub sum : (x : ℕ) → owner_taken x owner' + pile_sum x piles' ≡ owner_taken x owner + pile_sum x piles
  pub front : (j : ℕ) (d e : Pile) → j < i → (slice_index_or piles' j d).items ≡ take (vec_len (slice_index_or piles j e) - 1) (slice_index_or piles j e).items
  pub back : (j : ℕ) (d e : Pile) → i ≤ j → j < length piles → slice_index_or piles' j d ≡ slice_index_or piles j e

pub get_or_front : {X : Type 0} (xs : List X) (y : X) (k : ℕ) (d : X) → k < length xs → get_or (xs ++ y ∷ []) k d ≡ get_or xs k d
get_or_front [] y k d below = absurd (omega arith)
get_or_front (x ∷ xs) y zero d below = refl
get_or_front (x ∷ xs) y (suc k) d below = get_or_front xs y k d (omega arith)

pub get_or_last : {X : Type 0} (xs : List X) (y : X) (k : ℕ) (d : X) → k ≡ length xs → get_or (xs ++ y ∷ []) k d ≡ y
get_or_last [] y zero d is = refl
get_or_last [] y (suc k) d is = absurd (omega arith)
get_or_last (x ∷ xs) y zero d is = absurd (omega arith)
get_or_last (x ∷ xs) y (suc k) d is = get_or_last xs y k d (omega arith)

get_or_take : {X : Type 0} (xs : List X) (m k : ℕ) (d : X) → k < m → get_or (take m xs) k d ≡ get_or xs k d
get_or_take [] zero k d below = refl
get_or_take [] (suc m) k d below = refl
get_or_take (x ∷ xs) zero k d below = absurd (omega arith)
get_or_take (x ∷ xs) (suc m) zero d below = refl
get_or_take (x ∷ xs) (suc m) (suc k) d below = get_or_take xs m k d (omega arith)

-- whether the deque of the remainder r is one of those from m on
abbrev pub later : ℕ → ℕ → ℕ
later m r = if nat_le m r then 1 else 0

-- what was taken before is what is left to settle, and one more where the remainder's deque is settled
pub record Settling (n : ℕ) (o : List Owner) (p : List Pile) (owners : List Owner) (piles : List Pile) : Type 0 where
  pub unsettled : IsUnsettled n owners piles
  pub within : length owners ≤ n
  pub sum : (x : ℕ) → owner_sum x o + pile_sum x p ≤ owner_sum x owners + pile_sum x piles + later (length owners) (x % n)

longer_by_one : (front : List Owner) (owner : Owner) → length (front ++ owner ∷ []) ≡ length front + 1
longer_by_one front owner = length-append front (owner ∷ [])

pub settling_last : (n : ℕ) (o : List Owner) (p : List Pile) (owners : List Owner) (piles : List Pile) (front : List Owner) (owner : Owner) → Settling n o p owners piles → owners ≡ front ++ owner ∷ []
    → KnowsItsOwn n (length front) owner × LastAreOf owner piles
settling_last n o p owners piles front owner s is =
    let S : List Owner → Type 0 = λ l. IsUnsettled n l piles in
    let u : IsUnsettled n (front ++ owner ∷ []) piles = subst S is s.unsettled in
    let more = longer_by_one front owner in
    let m : ℕ = length front in
    let here : get_or (front ++ owner ∷ []) m owner ≡ owner = get_or_last front owner m owner refl in
    let K : Owner → Type 0 = KnowsItsOwn n m in (
      subst K here (u.owners_know m owner (omega arith)),
      λ i pile below.
          let long = u.piles_long i pile below in
          let at : vec_len (slice_index_or piles i pile) - 1 ≡ m = omega arith in (
            omega arith,
            λ q. let P : ℕ × Owner → Type 0 = λ y. IsPassOf (worker_deque y.1) (slice_index_or (slice_index_or piles i pile).items y.0 q) in
                subst P (λ j. (sym at j, here j)) (u.passes i m pile q owner below (omega arith)),
          ),
    )

one_remainder : (m r : ℕ) → (if r == m then 1 else 0) + later (m + 1) r ≤ later m r
one_remainder m r = grind (arith, nat_tests)

pub settling_steps : (n : ℕ) (o : List Owner) (p : List Pile) (owners : List Owner) (piles : List Pile) (front : List Owner) (owner owner' : Owner) (piles' : List Pile)
    → Settling n o p owners piles → owners ≡ front ++ owner ∷ []
    → (worker_view owner').put ≡ (worker_view owner).put → IsFair (worker_view owner') → ((x : ℕ) → owner_taken x owner' + pile_sum x piles' ≡ owner_taken x owner + pile_sum x piles)
    → Shortens piles piles'
    → Settling n o p front piles'
settling_steps n o p owners piles front owner owner' piles' s is put fair sum shorter =
    let S : List Owner → Type 0 = λ l. Settling n o p l piles in
    let t : Settling n o p (front ++ owner ∷ []) piles = subst S is s in
    let u = t.unsettled in
    let more = longer_by_one front owner in
    let m : ℕ = length front in
    let knows = (settling_last n o p owners piles front owner s is).0 in record {
      unsettled = record {
        owners_know = λ d w below. let K : Owner → Type 0 = KnowsItsOwn n d in subst K (get_or_front front owner d w below) (u.owners_know d w (omega arith));
        piles_long = λ i pile below.
            let a = shorter.0 in
            let long = u.piles_long i pile (omega arith) in
            let q : Pile = slice_index_or piles' i pile in
            let old : Pile = slice_index_or piles i pile in
            let items : q.items ≡ take (vec_len old - 1) old.items = shorter.1 i pile pile (omega arith) in
            let was = old.ok.0 in let now = q.ok.0 in
            omega (arith, ap length items, length-take (vec_len old - 1) old.items);
        passes = λ i d pile q w below under.
            let a = shorter.0 in
            let long = u.piles_long i pile (omega arith) in
            let old : Pile = slice_index_or piles i pile in
            let items : (slice_index_or piles' i pile).items ≡ take (vec_len old - 1) old.items = shorter.1 i pile pile (omega arith) in
            let same : get_or (slice_index_or piles' i pile).items d q ≡ get_or old.items d q =
            ap (λ (l : List Token). get_or l d q) items ∙ get_or_take old.items (vec_len old - 1) d q (omega arith) in
            let P : Owner × Token → Type 0 = λ y. IsPassOf (worker_deque y.0) y.1 in
            subst P (λ j. (get_or_front front owner d w under j, sym same j)) (u.passes i d pile q w (omega arith) (omega arith));
      };
      within = let b = t.within in omega arith;
      sum = λ x.
          let before = t.sum x in
          let now = sum x in
          let f = fair x in
          let k = knows.1 x in
          let same : times x (worker_view owner').put ≡ times x (worker_view owner).put = ap (times x) put in
          let one = one_remainder m (x % n) in
          let test : later (length (front ++ owner ∷ [])) (x % n) ≡ later (m + 1) (x % n) = ap (λ (k : ℕ). later k (x % n)) more in
          omega (arith, sum_by_push (owner_taken x) front owner);
    }

none_of_none : (x : ℕ) (tokens : List Token) → length tokens ≡ 0 → sum_by (taken_with x) tokens ≡ 0
none_of_none x [] none = refl
none_of_none x (t ∷ ts) none = absurd (omega arith)

no_passes : (x : ℕ) (piles : List Pile) → ((i : ℕ) (pile : Pile) → i < length piles → vec_len (slice_index_or piles i pile) ≡ 0) → pile_sum x piles ≡ 0
no_passes x [] none = refl
no_passes x (pile ∷ piles) none =
    let first = none 0 pile (omega arith) in
    let size = pile.ok.0 in
    let zero' : sum_by (taken_with x) pile.items ≡ 0 = none_of_none x pile.items (omega arith) in
    let rest = no_passes x piles (λ i q below. none (suc i) q (omega arith)) in
    omega (arith, sum_by-cons (λ (p : Pile). sum_by (taken_with x) p.items) pile piles)

at_most_one : (b : Bool) → (if b then 1 else 0) ≤ 1
at_most_one true = omega arith
at_most_one false = omega arith

pub settling_ends : (n : ℕ) (o : List Owner) (p : List Pile) (owners : List Owner) (piles : List Pile) → length owners ≡ 0 → Settling n o p owners piles → (x : ℕ) → owner_sum x o + pile_sum x p ≤ 1
settling_ends n o p [] piles none s x = let sum = s.sum x in let one = at_most_one (nat_le 0 (x % n)) in let left = no_passes x piles s.unsettled.piles_long in omega arith
settling_ends n o p (w ∷ ws) piles none s x = absurd (omega arith)
