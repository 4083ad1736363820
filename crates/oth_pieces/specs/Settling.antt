-- The passes of all hands, laid together by their hands. The pass for the deque d stands at d of each pile.
use Rattle.std.specs.Prelude.{◌≡◌, ℕ, ◌-◌, ◌%◌, ◌==◌, if◌then◌else◌, ◌<◌, ◌≤◌, true, List}
use Rattle.std.specs.Prelude.{length, take, slice_index_or, sum_by, vec_len, Vec}
use Rattle.std.specs.declared.alloc.Global.{Global}
use Rattle.crossbeam_deque.specs.Handles.{Pass, IsPassOf, worker_deque, worker_view}
use Rattle.crossbeam_deque.specs.declared.handles.Worker.{Worker}
use Rattle.oth_pieces.specs.declared.tasks.rule.Deal.{Deal}
use Rattle.oth_pieces.specs.declared.tasks.share.Share.{Share}
use Rattle.oth_pieces.specs.Dealing.{times}
use Rattle.oth_pieces.specs.Hands.{taken_with}

abbrev pub Token : Type 0
Token = Pass ℕ Share Global

abbrev pub Owner : Type 0
Owner = Worker ℕ Global Share Deal

abbrev pub Pile : Type 0
Pile = Vec Token Global

-- how often x was taken with these passes
abbrev pub pile_sum : ℕ → List Pile → ℕ
pile_sum x piles = sum_by (λ pile. sum_by (taken_with x) pile.items) piles

abbrev pub owner_taken : ℕ → Owner → ℕ
owner_taken x w = let v : Share = worker_view w in times x v.taken

abbrev pub owner_sum : ℕ → List Owner → ℕ
owner_sum x owners = sum_by (owner_taken x) owners

-- the pile's last pass is of the owner's deque
abbrev pub LastIsOf : Owner → Pile → Type 0
LastIsOf owner pile = (0 < vec_len pile) × ((p : Token) → IsPassOf (worker_deque owner) (slice_index_or pile.items (vec_len pile - 1) p))

abbrev pub LastAreOf : Owner → List Pile → Type 0
LastAreOf owner piles = (i : ℕ) (d : Pile) → i < length piles → LastIsOf owner (slice_index_or piles i d)

abbrev pub SameOwner : Owner → Owner → Type 0
SameOwner old new =
    (worker_deque new ≡ worker_deque old)
    × ((worker_view new).knows ≡ (worker_view old).knows)
    × ((worker_view new).put ≡ (worker_view old).put)

-- each pile loses its last pass
abbrev pub Shortens : List Pile → List Pile → Type 0
Shortens old new =
    (length new ≡ length old)
    × ((i : ℕ) (d e : Pile) → i < length old
    → (slice_index_or new i d).items ≡ take (vec_len (slice_index_or old i e) - 1) (slice_index_or old i e).items)

-- the owner of the deque d of n knows what was put there: numbers of that remainder, each once at most
abbrev pub KnowsItsOwn : ℕ → ℕ → Owner → Type 0
KnowsItsOwn n d owner = ((worker_view owner).knows ≡ true) × ((x : ℕ) → times x (worker_view owner).put ≤ (if x % n == d then 1 else 0))

-- the deques that aren't settled yet are those of these owners, of n in all
pub record IsUnsettled (n : ℕ) (owners : List Owner) (piles : List Pile) : Type 0 where
  pub owners_know : (d : ℕ) (w : Owner) → d < length owners → KnowsItsOwn n d (slice_index_or owners d w)
  pub piles_long : (i : ℕ) (pile : Pile) → i < length piles → vec_len (slice_index_or piles i pile) ≡ length owners
  pub passes : (i d : ℕ) (pile : Pile) (p : Token) (w : Owner) → i < length piles → d < length owners
      → IsPassOf (worker_deque (slice_index_or owners d w)) (slice_index_or (slice_index_or piles i pile).items d p)

abbrev pub CanSettle : List Owner → List Pile → Type 0
CanSettle owners piles = (0 < length owners) × IsUnsettled (length owners) owners piles
