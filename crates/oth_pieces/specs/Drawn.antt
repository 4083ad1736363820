-- What the hands drew, when all have ended.
--     times_in_all x lists      how often x stands in the lists
--     left_of count lists      the numbers below the count that are in no list, rising
--     AreOnce count drawn      the lists and the numbers left have each number below the count once, and no other
use Rattle.std.specs.Prelude.{◌≡◌, ℕ, ◌+◌, ◌<◌, ◌≤◌, ◌==◌, List, map, filter, sum_by, Vec}
use Rattle.std.specs.List.{range_with_len}
use Rattle.std.specs.declared.alloc.Global.{Global}
use Rattle.oth_pieces.specs.declared.tasks.state.Drawn.{Drawn}
use Rattle.oth_pieces.specs.Dealing.{times}

abbrev pub lists_of : Drawn → List (List ℕ)
lists_of drawn = map (λ (list : Vec ℕ Global). list.items) drawn.lists.items

abbrev pub times_in_all : ℕ → List (Vec ℕ Global) → ℕ
times_in_all x lists = sum_by (λ (list : Vec ℕ Global). times x list.items) lists

abbrev pub left_of : ℕ → List (Vec ℕ Global) → List ℕ
left_of count lists = filter (λ x. times_in_all x lists == 0) (range_with_len 0 count)

abbrev pub times_drawn : ℕ → Drawn → ℕ
times_drawn x drawn = times_in_all x drawn.lists.items + times x drawn.left.items

pub record AreOnce (count : ℕ) (drawn : Drawn) : Type 0 where
  pub once : (x : ℕ) → x < count → times_drawn x drawn ≡ 1
  pub none : (x : ℕ) → count ≤ x → times_drawn x drawn ≡ 0
  pub left : drawn.left.items ≡ left_of count drawn.lists.items
