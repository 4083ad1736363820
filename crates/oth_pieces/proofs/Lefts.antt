-- The numbers that are in no list.
use Rattle.std.proofs.Common.{◌≡◌, ℕ, ◌+◌, ◌<◌, ◌==◌, ◌||◌, Bool, true, false, cond, List, [], ◌∷◌, ◌++◌, length, get_or, take, sym, refl, ap, ◌∙◌, arith, Vec, append-nil}
use Rattle.std.specs.List.{filter, range_with_len, list_any}
use Rattle.std.specs.declared.alloc.Global.{Global}
use Rattle.std.proofs.lemmas.Bool.{false≢true}
use Rattle.std.proofs.lemmas.Bool.Decides.{nat_tests}
use Rattle.std.proofs.lemmas.List.{take_more}
use Rattle.std.proofs.lemmas.List.Elements.{filter-append}
use Rattle.std.proofs.lemmas.List.Sums.{sum_by-cons, sum_by_push, get_or-le-sum_by}
use Rattle.oth_pieces.specs.Dealing.{times}
use Rattle.oth_pieces.specs.Drawn.{times_in_all, left_of}
use Rattle.oth_pieces.proofs.Belows.{range_split, zero_plus}

any_times : (x : ℕ) (xs : List ℕ) → list_any (λ y. y == x) xs ≡ true → 0 < times x xs
any_times x [] h = absurd (false≢true h)
any_times x (y ∷ ys) h = let e = sum_by-cons (λ z. cond (z == x) 1 0) y ys in step (y == x) (any_times x ys) h e
  where
    step : (b : Bool) → (list_any (λ z. z == x) ys ≡ true → 0 < times x ys) → (b || list_any (λ z. z == x) ys) ≡ true → times x (y ∷ ys) ≡ cond b 1 0 + times x ys → 0 < times x (y ∷ ys)
    step true more h e = omega arith
    step false more h e = let rest = more h in omega arith

none_times : (x : ℕ) (xs : List ℕ) → list_any (λ y. y == x) xs ≡ false → times x xs ≡ 0
none_times x [] h = refl
none_times x (y ∷ ys) h = let e = sum_by-cons (λ z. cond (z == x) 1 0) y ys in step (y == x) (none_times x ys) h e
  where
    step : (b : Bool) → (list_any (λ z. z == x) ys ≡ false → times x ys ≡ 0) → (b || list_any (λ z. z == x) ys) ≡ false → times x (y ∷ ys) ≡ cond b 1 0 + times x ys → times x (y ∷ ys) ≡ 0
    step true more h e = absurd (false≢true (sym h))
    step false more h e = let rest = more h in omega arith

pub is_listed : (x : ℕ) (lists : List (Vec ℕ Global)) (i : ℕ) (list : Vec ℕ Global) → i < length lists → list ≡ get_or lists i list → list_any (λ y. y == x) list.items ≡ true
    → 0 < times_in_all x lists
is_listed x lists i list below is has =
    let some = any_times x list.items has in
    let same : times x list.items ≡ times x (get_or lists i list).items = ap (λ (l : Vec ℕ Global). times x l.items) is in
    let most = get_or-le-sum_by (λ (l : Vec ℕ Global). times x l.items) lists i list below in
    omega arith

pub not_listed : (x : ℕ) (lists : List (Vec ℕ Global)) (i : ℕ) (list : Vec ℕ Global) → i < length lists → list ≡ get_or lists i list → list_any (λ y. y == x) list.items ≡ false
    → times_in_all x (take i lists) ≡ 0
    → times_in_all x (take (i + 1) lists) ≡ 0
not_listed x lists i list below is has none =
    let no_one = none_times x list.items has in
    let same : times x list.items ≡ times x (get_or lists i list).items = ap (λ (l : Vec ℕ Global). times x l.items) is in
    let more : times_in_all x (take (i + 1) lists) ≡ times_in_all x (take i lists ++ get_or lists i list ∷ []) = ap (times_in_all x) (take_more lists i list below) in
    omega (arith, sum_by_push (λ (l : Vec ℕ Global). times x l.items) (take i lists) (get_or lists i list))

module _ (lists : List (Vec ℕ Global)) where
  open_at : ℕ → Bool
  open_at x = times_in_all x lists == 0

  one_left : (n : ℕ) (b : Bool) → open_at n ≡ b → filter open_at (n ∷ []) ≡ cond b (n ∷ []) []
  unfolding open_at
  one_left n b is = ap (λ c. cond c (n ∷ []) []) is

  more_left : (n : ℕ) (b : Bool) → open_at n ≡ b → left_of (n + 1) lists ≡ left_of n lists ++ cond b (n ∷ []) []
  unfolding open_at
  more_left n b is =
      let split : range_with_len 0 (n + 1) ≡ range_with_len 0 n ++ n ∷ [] = range_split 0 n 1 ∙ ap (λ k. range_with_len 0 n ++ k ∷ []) (zero_plus n) in
      ap (filter open_at) split ∙ (filter-append open_at (range_with_len 0 n) (n ∷ []) ∙ ap (λ l. left_of n lists ++ l) (one_left n b is))

  pub stays_left : (n : ℕ) → times_in_all n lists ≡ 0 → left_of (n + 1) lists ≡ left_of n lists ++ n ∷ []
  unfolding open_at
  stays_left n none = more_left n true (grind (arith, nat_tests))

  pub was_drawn : (n : ℕ) → 0 < times_in_all n lists → left_of (n + 1) lists ≡ left_of n lists
  unfolding open_at
  was_drawn n some = more_left n false (grind (arith, nat_tests)) ∙ append-nil (left_of n lists)
