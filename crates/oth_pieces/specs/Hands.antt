-- Hands of the same tasks.
--     IsCrew hands      there can be that number of workers: 1 to 16
--     IsHandOf tasks hand      the hand's deque and passes are those of the tasks, and its list is what it has taken
--     list_of hand, number_of hand, has_ended hand      what it has drawn, its place among the hands, whether it gets no more
--     room_of hand, HaveRoom hands      for how many numbers it has room; each of them has room for those of any frontier
--     AreHandsOf tasks n hands, AreAllHands tasks hands      n new hands of the tasks; all hands of the tasks, each at its place
--     Draws tasks old new found      the hand draws the number found, if there is one, which isn't in the list yet
use Rattle.std.specs.Prelude.{◌≡◌, ℕ, ◌+◌, ◌%◌, ◌<◌, ◌≤◌, Bool, true, false, ◌&&◌, ◌==◌, nat_lt, if◌then◌else◌, List, [], length}
use Rattle.std.specs.Prelude.{slice_index_or, sum_by, All, vec_len, vec_capacity, Vec, ◌⊎◌, Option, Some, option_to_list}
use Rattle.std.specs.declared.alloc.Global.{Global}
use Rattle.crossbeam_deque.specs.Handles.{Pass, view, IsPassOf, worker_deque, stealer_deque, worker_view}
use Rattle.crossbeam_deque.specs.declared.handles.Stealer.{Stealer}
use Rattle.crossbeam_deque.specs.declared.handles.Worker.{Worker}
use Rattle.oth_pieces.specs.declared.frontier.TheConstants.{MOST_ITEMS}
use Rattle.oth_pieces.specs.declared.tasks.state.Tasks.{Tasks}
use Rattle.oth_pieces.specs.declared.tasks.state.Hand.{Hand}
use Rattle.oth_pieces.specs.declared.tasks.state.Parts.{Parts}
use Rattle.oth_pieces.specs.declared.tasks.rule.Deal.{Deal}
use Rattle.oth_pieces.specs.declared.tasks.share.Share.{Share}
use Rattle.oth_pieces.specs.Dealing.{times, owner_of, thief_of}

abbrev pub taken_with : ℕ → Pass ℕ Share Global → ℕ
taken_with x p = let v : Share = view p in times x v.taken

-- how often the hand took x, by what it knows of the deques
abbrev pub taken_by : ℕ → Hand → ℕ
taken_by x h = times x (worker_view h.owner).taken + sum_by (taken_with x) h.passes.items

-- how often x is pushed into a deque of n: a number below the count goes into the deque of its remainder, once
abbrev pub dealt_of : ℕ → ℕ → ℕ → ℕ → ℕ
dealt_of n count deque x = if nat_lt x count && (x % n == deque) then 1 else 0

abbrev pub dealt : Tasks → ℕ → ℕ → ℕ
dealt tasks deque x = dealt_of (vec_len tasks.thieves) tasks.count deque x

abbrev pub Knows : Tasks → ℕ → Share → Type 0
Knows tasks deque v = (v.knows ≡ true) × ((x : ℕ) → times x v.put ≡ dealt tasks deque x)

abbrev pub Thief : Type 0
Thief = Stealer ℕ Global Share Deal

-- empty, with room for what that many hands hold
pub record HasRoom (hands : ℕ) (room : Parts) : Type 0 where
  pub empty : (vec_len room.owners ≡ 0) × (vec_len room.piles ≡ 0) × (vec_len room.lists ≡ 0)
  pub owners : hands ≤ vec_capacity room.owners
  pub piles : hands ≤ vec_capacity room.piles
  pub lists : hands ≤ vec_capacity room.lists

-- place for what one more hand holds
pub record HasPlace (room : Parts) : Type 0 where
  pub owners : vec_len room.owners < vec_capacity room.owners
  pub piles : vec_len room.piles < vec_capacity room.piles
  pub lists : vec_len room.lists < vec_capacity room.lists

pub record Fits (tasks : Tasks) (h : Hand) : Type 0 where
  pub number : h.number < vec_len tasks.thieves
  pub passes : vec_len h.passes ≡ vec_len tasks.thieves
  pub owner : (s : Thief) → worker_deque h.owner ≡ stealer_deque (slice_index_or tasks.thieves.items h.number s)
  pub owner_knows : Knows tasks h.number (worker_view h.owner)
  pub each : (k : ℕ) (s : Thief) (p : Pass ℕ Share Global) → k < vec_len tasks.thieves
      → IsPassOf (stealer_deque (slice_index_or tasks.thieves.items k s)) (slice_index_or h.passes.items k p)
  pub each_knows : (k : ℕ) (p : Pass ℕ Share Global) → k < vec_len tasks.thieves → Knows tasks k (view (slice_index_or h.passes.items k p))
  pub room : HasRoom (vec_len tasks.thieves) h.room

-- the numbers that the hand has drawn, in their order
abbrev pub list_of : Hand → List ℕ
list_of h = h.list.items

-- the hand's place among the hands
abbrev pub number_of : Hand → ℕ
number_of h = h.number

abbrev pub has_ended : Hand → Bool
has_ended h = h.ended

-- for how many numbers the hand's list has room
abbrev pub room_of : Hand → ℕ
room_of h = vec_capacity h.list

-- how many numbers there are
abbrev pub count_of : Tasks → ℕ
count_of tasks = tasks.count

abbrev pub IsCrew : ℕ → Type 0
IsCrew hands = (1 ≤ hands) × (hands ≤ 16)

pub record IsHandOf (tasks : Tasks) (h : Hand) : Type 0 where
  pub fits : Fits tasks h
  pub taken : (x : ℕ) → taken_by x h ≡ times x (list_of h)
  pub within : (x : ℕ) → tasks.count ≤ x → times x (list_of h) ≡ 0

pub record Draws (tasks : Tasks) (old new : Hand) (found : Option ℕ) : Type 0 where
  pub fits : Fits tasks new
  pub same : (new.number ≡ old.number) × (new.list ≡ old.list) × (new.ended ≡ old.ended)
  pub taken : (x : ℕ) → taken_by x new ≡ taken_by x old + times x (option_to_list found)
  pub below : (x : ℕ) → found ≡ Some x → x < tasks.count

abbrev pub Owner : Type 0
Owner = Worker ℕ Global Share Deal

-- a deque of n with all its numbers, none of which is taken
abbrev pub HasOnly : ℕ → ℕ → ℕ → Share → Type 0
HasOnly n count deque v = (v.knows ≡ true) × (v.taken ≡ []) × ((x : ℕ) → times x v.put ≡ dealt_of n count deque x)

abbrev pub IsDealt : ℕ → ℕ → ℕ → Owner → Type 0
IsDealt n count deque owner = HasOnly n count deque (worker_view owner)

abbrev pub AreDealt : ℕ → ℕ → List Owner → Type 0
AreDealt n count owners = (d : ℕ) (w : Owner) → d < length owners → IsDealt n count d (slice_index_or owners d w)

abbrev pub IsThiefOf : Owner → Thief → Type 0
IsThiefOf owner thief = stealer_deque thief ≡ worker_deque owner

abbrev pub AreThievesOf : List Owner → Vec Thief Global → Type 0
AreThievesOf owners thieves =
    (vec_len thieves ≡ length owners)
    × ((d : ℕ) (w : Owner) (t : Thief) → d < length owners
    → IsThiefOf (slice_index_or owners d w) (slice_index_or thieves.items d t))

abbrev pub KnowTheirs : List Owner → Type 0
KnowTheirs owners = (d : ℕ) (w : Owner) → d < length owners → (worker_view (slice_index_or owners d w)).knows ≡ true

-- the owner as before, which doesn't push any more
abbrev pub StaysOwner : Owner → Owner → Type 0
StaysOwner old new = (worker_deque new ≡ worker_deque old) × (worker_view new ≡ owner_of (worker_view old))

abbrev pub StayOwners : List Owner → List Owner → Type 0
StayOwners old new =
    (length new ≡ length old)
    × ((d : ℕ) (w u : Owner) → d < length old
    → (slice_index_or new d u ≡ slice_index_or old d w) ⊎ StaysOwner (slice_index_or old d w) (slice_index_or new d u))

abbrev pub IsTokenOf : Owner → Pass ℕ Share Global → Type 0
IsTokenOf owner p = IsPassOf (worker_deque owner) p × (view p ≡ thief_of (worker_view owner))

abbrev pub AreTokensOf : List Owner → Vec (Pass ℕ Share Global) Global → Type 0
AreTokensOf owners passes =
    (vec_len passes ≡ length owners)
    × ((d : ℕ) (w : Owner) (p : Pass ℕ Share Global) → d < length owners
    → IsTokenOf (slice_index_or owners d w) (slice_index_or passes.items d p))

-- the owner of the deque d of the tasks, with its numbers
abbrev pub OwnerFits : Tasks → ℕ → Owner → Type 0
OwnerFits tasks d owner =
    ((t : Thief) → worker_deque owner ≡ stealer_deque (slice_index_or tasks.thieves.items d t))
    × IsDealt (vec_len tasks.thieves) tasks.count d owner

abbrev pub OwnersFit : Tasks → List Owner → Type 0
OwnersFit tasks owners =
    (length owners ≡ vec_len tasks.thieves)
    × ((d : ℕ) (w : Owner) → d < length owners → OwnerFits tasks d (slice_index_or owners d w))

-- a pass for each deque of the tasks
pub record PileFits (tasks : Tasks) (pile : Vec (Pass ℕ Share Global) Global) : Type 0 where
  pub long : vec_len pile ≡ vec_len tasks.thieves
  pub each : (d : ℕ) (t : Thief) (p : Pass ℕ Share Global) → d < vec_len tasks.thieves
      → IsPassOf (stealer_deque (slice_index_or tasks.thieves.items d t)) (slice_index_or pile.items d p)
  pub knows : (d : ℕ) (p : Pass ℕ Share Global) → d < vec_len tasks.thieves
      → HasOnly (vec_len tasks.thieves) tasks.count d (view (slice_index_or pile.items d p))

abbrev pub IsNewHand : Tasks → ℕ → Hand → Type 0
IsNewHand tasks number h = IsHandOf tasks h × (number_of h ≡ number) × (list_of h ≡ []) × (has_ended h ≡ false) × (MOST_ITEMS ≤ room_of h)

abbrev pub AreHandsOf : Tasks → ℕ → List Hand → Type 0
AreHandsOf tasks n hands =
    (length hands ≡ n)
    × (vec_len tasks.thieves ≡ n)
    × ((i : ℕ) (h : Hand) → i < n → IsNewHand tasks i (slice_index_or hands i h))

-- the hands of the tasks, each at its number
pub record AreAllHands (tasks : Tasks) (hands : List Hand) : Type 0 where
  pub some : 0 < length hands
  pub many : length hands ≡ vec_len tasks.thieves
  pub each : (i : ℕ) (h : Hand) → i < length hands → IsHandOf tasks (slice_index_or hands i h) × (number_of (slice_index_or hands i h) ≡ i)

-- no hand has drawn
abbrev pub AreFresh : List Hand → Type 0
AreFresh hands = All (λ (h : Hand). (list_of h ≡ []) × (has_ended h ≡ false)) hands

-- each hand can draw all numbers of a frontier
abbrev pub HaveRoom : List Hand → Type 0
HaveRoom hands = All (λ (h : Hand). MOST_ITEMS ≤ room_of h) hands
