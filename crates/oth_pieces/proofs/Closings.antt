-- From the hands to what is settled.
use Rattle.std.proofs.Common.{◌≡◌, ◌≢◌, ℕ, zero, suc, ◌+◌, ◌<◌, ◌≤◌, ◌%◌, ◌==◌, Bool, true, false, if◌then◌else◌, List, [], ◌∷◌, map}
use Rattle.std.proofs.Common.{length, get_or, sym, refl, ap, ◌∙◌, subst, arith, slice_index_or, vec_len, Vec, cond}
use Rattle.std.specs.List.{sum_by, filter, range_with_len}
use Rattle.std.proofs.lemmas.List.Sums.{sum_by-cons}
use Rattle.std.proofs.lemmas.Bool.Decides.{nat_tests}
use Rattle.crossbeam_deque.specs.Handles.{IsPassOf, worker_deque, stealer_deque, worker_view}
use Rattle.oth_pieces.specs.declared.tasks.state.Tasks.{Tasks}
use Rattle.oth_pieces.specs.declared.tasks.state.Hand.{Hand}
use Rattle.oth_pieces.specs.Dealing.{times}
use Rattle.std.specs.declared.alloc.Global.{Global}
use mathlib.Core.Logic.{dite}
use native.Mathlib.Decide.{ℕ_discrete}
use Rattle.oth_pieces.specs.declared.tasks.state.Drawn.{Drawn}
use Rattle.oth_pieces.specs.Drawn.{lists_of, times_in_all, left_of, AreOnce}
use Rattle.oth_pieces.specs.Hands.{list_of, Thief, taken_by, taken_with, dealt_of, AreAllHands}
use Rattle.oth_pieces.specs.Settling.{Owner, Pile, pile_sum, owner_taken, owner_sum, CanSettle}

pub get_or_map : {A B : Type 0} (f : A → B) (xs : List A) (i : ℕ) (x : A) (y : B) → i < length xs → get_or (map f xs) i y ≡ f (get_or xs i x)
get_or_map f [] i x y below = absurd (omega arith)
get_or_map f (a ∷ as') zero x y below = refl
get_or_map f (a ∷ as') (suc i) x y below = get_or_map f as' i x y (omega arith)

pub length_map : {A B : Type 0} (f : A → B) (xs : List A) → length (map f xs) ≡ length xs
length_map f [] = refl
length_map f (a ∷ as') = ap suc (length_map f as')

-- what the lists have is what the owners and the passes took
pub sums_agree : (x : ℕ) (hands : List Hand) → ((i : ℕ) (h : Hand) → i < length hands → taken_by x (slice_index_or hands i h) ≡ times x (slice_index_or hands i h).list.items)
    → sum_by (λ (h : Hand). times x h.list.items) hands ≡ owner_sum x (map (λ (h : Hand). h.owner) hands) + pile_sum x (map (λ (h : Hand). h.passes) hands)
sums_agree x [] each = refl
sums_agree x (h ∷ hs) each =
    let first : taken_by x h ≡ times x h.list.items = each 0 h (omega arith) in
    let rest = sums_agree x hs (λ i k below. each (suc i) k (omega arith)) in
    omega (
      arith,
      sum_by-cons (λ (h : Hand). times x h.list.items) h hs,
      sum_by-cons (owner_taken x) h.owner (map (λ (h : Hand). h.owner) hs),
      sum_by-cons (λ (p : Pile). sum_by (taken_with x) p.items) h.passes (map (λ (h : Hand). h.passes) hs),
    )

less_put : (n count d x : ℕ) → dealt_of n count d x ≤ (if x % n == d then 1 else 0)
less_put n count d x = grind (arith, nat_tests)

pub can_settle : (tasks : Tasks) (hand : Hand) (thief : Thief) (hands : List Hand) → AreAllHands tasks hands → CanSettle (map (λ (h : Hand). h.owner) hands) (map (λ (h : Hand). h.passes) hands)
can_settle tasks hand thief hands all =
    let n : ℕ = length hands in
    let owners : List Owner = map (λ (h : Hand). h.owner) hands in
    let piles : List Pile = map (λ (h : Hand). h.passes) hands in
    let many : length owners ≡ n = length_map (λ (h : Hand). h.owner) hands in
    let heaps : length piles ≡ n = length_map (λ (h : Hand). h.passes) hands in
    let size = all.many in
    let owner_is : (d : ℕ) (w : Owner) → d < length owners → slice_index_or owners d w ≡ (slice_index_or hands d hand).owner = λ d w below.
    get_or_map (λ (h : Hand). h.owner) hands d hand w (omega arith) in
    let pile_is : (i : ℕ) (p : Pile) → i < length piles → slice_index_or piles i p ≡ (slice_index_or hands i hand).passes = λ i p below.
    get_or_map (λ (h : Hand). h.passes) hands i hand p (omega arith) in (
      omega arith,
      record {
        owners_know = λ d w below.
            let k = all.each d hand (omega arith) in
            let N : ℕ × Owner → Type 0 = λ q. ((worker_view q.1).knows ≡ true) × ((x : ℕ) → times x (worker_view q.1).put ≡ dealt_of (vec_len tasks.thieves) tasks.count q.0 x) in
            let own : N (d, slice_index_or owners d w) = subst N (λ j. (k.1 j, sym (owner_is d w below) j)) (k.0.fits.owner_knows) in (
              own.0,
              λ x. let a = own.1 x in let b = less_put (vec_len tasks.thieves) tasks.count d x in
                  let e : vec_len tasks.thieves ≡ length owners = sym size ∙ sym many in
                  let P : ℕ → Type 0 = λ m. times x (worker_view (slice_index_or owners d w)).put ≤ (if x % m == d then 1 else 0) in subst P e (omega arith),
            );
        piles_long = λ i p below.
            let k = all.each i hand (omega arith) in ap (λ (q : Pile). vec_len q) (pile_is i p below) ∙ (k.0.fits.passes ∙ (sym size ∙ sym many));
        passes = λ i d p q w below under.
            let k = all.each i hand (omega arith) in
            let o = all.each d hand (omega arith) in
            let pass : IsPassOf (stealer_deque (slice_index_or tasks.thieves.items d thief)) (slice_index_or (slice_index_or hands i hand).passes.items d q) = k.0.fits.each d thief q (omega arith) in
            let Q : ℕ → Type 0 = λ m. worker_deque (slice_index_or hands d hand).owner ≡ stealer_deque (slice_index_or tasks.thieves.items m thief) in
            let e : worker_deque (slice_index_or owners d w) ≡ stealer_deque (slice_index_or tasks.thieves.items d thief) =
            ap (λ (v : Owner). worker_deque v) (owner_is d w under) ∙ subst Q o.1 (o.0.fits.owner thief) in
            let P : Pile → Type 0 = λ r. IsPassOf (worker_deque (slice_index_or owners d w)) (slice_index_or r.items d q) in
            subst P (sym (pile_is i p below)) (pass.0 ∙ sym (ap (λ z. z.0) e), pass.1 ∙ sym (ap (λ z. z.1) e), pass.2, pass.3);
      },
    )

with_thief : (tasks : Tasks) (hand : Hand) (hands : List Hand) → AreAllHands tasks hands → (thieves : List Thief) → tasks.thieves.items ≡ thieves
    → CanSettle (map (λ (h : Hand). h.owner) hands) (map (λ (h : Hand). h.passes) hands)
with_thief tasks hand hands all [] is = let z = all.some in let n = all.many in let m = tasks.thieves.ok.0 in absurd (omega (arith, ap length is))
with_thief tasks hand hands all (t ∷ ts) is = can_settle tasks hand t hands all

pub closes : (tasks : Tasks) (hands : List Hand) (owners : List Owner) (piles : List Pile) → AreAllHands tasks hands → owners ≡ map (λ (h : Hand). h.owner) hands
    → piles ≡ map (λ (h : Hand). h.passes) hands → CanSettle owners piles
closes tasks [] owners piles all is are = let z = all.some in absurd (omega arith)
closes tasks (h ∷ hs) owners piles all is are =
    let P : List Owner × List Pile → Type 0 = λ q. CanSettle q.0 q.1 in subst P (λ j. (sym is j, sym are j)) (with_thief tasks h (h ∷ hs) all tasks.thieves.items refl)

pub each_once : (tasks : Tasks) (hands : List Hand) (owners : List Owner) (piles : List Pile) → AreAllHands tasks hands → owners ≡ map (λ (h : Hand). h.owner) hands
    → piles ≡ map (λ (h : Hand). h.passes) hands
    → ((x : ℕ) → owner_sum x owners + pile_sum x piles ≤ 1) → (x : ℕ) → sum_by (λ (h : Hand). times x h.list.items) hands ≤ 1
each_once tasks hands owners piles all is are most x =
    let m = most x in
    let a : owner_sum x owners ≡ owner_sum x (map (λ (h : Hand). h.owner) hands) = ap (owner_sum x) is in
    let b : pile_sum x piles ≡ pile_sum x (map (λ (h : Hand). h.passes) hands) = ap (pile_sum x) are in
    let s = sums_agree x hands (λ i h below. (all.each i h below).0.taken x) in omega arith

-- the sum over the lists is the sum over the hands
lists_agree : (x : ℕ) (hands : List Hand) → times_in_all x (map (λ (h : Hand). h.list) hands) ≡ sum_by (λ (h : Hand). times x h.list.items) hands
lists_agree x [] = refl
lists_agree x (h ∷ hs) =
    let rest = lists_agree x hs in
    omega (arith, sum_by-cons (λ (l : Vec ℕ Global). times x l.items) h.list (map (λ (h : Hand). h.list) hs), sum_by-cons (λ (h : Hand). times x h.list.items) h hs)

none_above : (x : ℕ) (hands : List Hand) → ((i : ℕ) (h : Hand) → i < length hands → times x (slice_index_or hands i h).list.items ≡ 0) → sum_by (λ (h : Hand). times x h.list.items) hands ≡ 0
none_above x [] none = refl
none_above x (h ∷ hs) none =
    let first = none 0 h (omega arith) in
    let rest = none_above x hs (λ i k below. none (suc i) k (omega arith)) in
    omega (arith, sum_by-cons (λ (h : Hand). times x h.list.items) h hs)

head_other : (a x : ℕ) → a ≢ x → ◌≡◌ {A = ℕ} (cond (a == x) 1 0) 0
head_other a x other = grind (arith, nat_tests)

head_same : (a x : ℕ) → a ≡ x → ◌≡◌ {A = ℕ} (cond (a == x) 1 0) 1
head_same a x same = grind (arith, nat_tests)

outside : (p : ℕ → Bool) (x a n : ℕ) → ((k : ℕ) → a ≤ k → k < a + n → k ≢ x) → times x (filter p (range_with_len a n)) ≡ 0
outside p x a zero apart = refl
outside p x a (suc n) apart =
    step (p a) (outside p x (a + 1) n (λ k l m. apart k (omega arith) (omega arith))) (apart a (omega arith) (omega arith))
  where
    step : (b : Bool) → times x (filter p (range_with_len (a + 1) n)) ≡ 0 → a ≢ x → times x (cond b (a ∷ filter p (range_with_len (a + 1) n)) (filter p (range_with_len (a + 1) n))) ≡ 0
    step true rest other = let h = head_other a x other in omega (arith, sum_by-cons (λ y. cond (y == x) 1 0) a (filter p (range_with_len (a + 1) n)))
    step false rest other = rest

within : (p : ℕ → Bool) (x a n : ℕ) → a ≤ x → x < a + n → times x (filter p (range_with_len a n)) ≡ cond (p x) 1 0
within p x a zero low high = absurd (omega arith)
within p x a (suc n) low high = dite (ℕ_discrete a x)
    (λ same. here (p a) same (outside p x (a + 1) n (λ k l m is. omega arith)) ∙ ap (λ k. cond (p k) 1 0) same)
    (λ other. later (p a) other (within p x (a + 1) n (omega arith) (omega arith)))
  where
    here : (b : Bool) → a ≡ x → times x (filter p (range_with_len (a + 1) n)) ≡ 0 → times x (cond b (a ∷ filter p (range_with_len (a + 1) n)) (filter p (range_with_len (a + 1) n))) ≡ cond b 1 0
    here true same rest = let h = head_same a x same in omega (arith, sum_by-cons (λ y. cond (y == x) 1 0) a (filter p (range_with_len (a + 1) n)))
    here false same rest = rest

    later : (b : Bool) → a ≢ x → times x (filter p (range_with_len (a + 1) n)) ≡ cond (p x) 1 0
        → times x (cond b (a ∷ filter p (range_with_len (a + 1) n)) (filter p (range_with_len (a + 1) n))) ≡ cond (p x) 1 0
    later true other rest = let h = head_other a x other in omega (arith, sum_by-cons (λ y. cond (y == x) 1 0) a (filter p (range_with_len (a + 1) n)))
    later false other rest = rest

at_most_one_left : (t : ℕ) → t ≤ 1 → t + cond (t == 0) 1 0 ≡ 1
at_most_one_left t most = grind (arith, nat_tests)

pub all_once : (count : ℕ) (drawn : Drawn) → ((x : ℕ) → times_in_all x drawn.lists.items ≤ 1) → ((x : ℕ) → count ≤ x → times_in_all x drawn.lists.items ≡ 0)
    → drawn.left.items ≡ left_of count drawn.lists.items → AreOnce count drawn
all_once count drawn most none left =
    let lists : List (Vec ℕ Global) = drawn.lists.items in
    let p : ℕ → Bool = λ x. times_in_all x lists == 0 in record {
      once = λ x below.
          let rest : times x drawn.left.items ≡ cond (times_in_all x lists == 0) 1 0 = ap (times x) left ∙ within p x 0 count (omega arith) (omega arith) in
          ap (λ n. times_in_all x lists + n) rest ∙ at_most_one_left (times_in_all x lists) (most x);
      none = λ x above.
          let rest : times x drawn.left.items ≡ 0 = ap (times x) left ∙ outside p x 0 count (λ k l m is. omega arith) in
          let no_list = none x above in
          omega arith;
      left = left;
    }

pub closed : (tasks : Tasks) (hands : List Hand) (owners : List Owner) (piles : List Pile) (drawn : Drawn) → AreAllHands tasks hands → owners ≡ map (λ (h : Hand). h.owner) hands
    → piles ≡ map (λ (h : Hand). h.passes) hands
    → ((x : ℕ) → owner_sum x owners + pile_sum x piles ≤ 1) → drawn.lists.items ≡ map (λ (h : Hand). h.list) hands → drawn.left.items ≡ left_of tasks.count drawn.lists.items
    → AreOnce tasks.count drawn
closed tasks hands owners piles drawn all is are most lists left =
    let agree : (x : ℕ) → times_in_all x drawn.lists.items ≡ sum_by (λ (h : Hand). times x h.list.items) hands = λ x. ap (times_in_all x) lists ∙ lists_agree x hands in
    all_once tasks.count drawn
    (λ x. let a = agree x in let one = each_once tasks hands owners piles all is are most x in omega arith)
    (λ x above. agree x ∙ none_above x hands (λ i h below. (all.each i h below).0.within x above))
    left

pub lists_same : (hands : List Hand) (drawn : Drawn) → drawn.lists.items ≡ map (λ (h : Hand). h.list) hands → lists_of drawn ≡ map list_of hands
lists_same hands drawn is = ap (map (λ (l : Vec ℕ Global). l.items)) is ∙ items_of hands
  where
    items_of : (hs : List Hand) → map (λ (l : Vec ℕ Global). l.items) (map (λ (h : Hand). h.list) hs) ≡ map list_of hs
    items_of [] = refl
    items_of (h ∷ hs) = ap (λ l. h.list.items ∷ l) (items_of hs)

none_listed : (x : ℕ) (lists : List (Vec ℕ Global)) → lists ≡ [] → times_in_all x lists ≡ 0
none_listed x lists none = ap (times_in_all x) none

-- with no list all numbers are left
pub all_left : (count : ℕ) (drawn : Drawn) → drawn.lists.items ≡ [] → drawn.left.items ≡ left_of count drawn.lists.items → AreOnce count drawn
all_left count drawn none left = all_once count drawn (λ x. let z = none_listed x drawn.lists.items none in omega arith) (λ x above. none_listed x drawn.lists.items none) left
