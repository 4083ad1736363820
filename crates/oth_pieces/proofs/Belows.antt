-- The items below a root, square by square.
use Rattle.std.proofs.Common.{◌≡◌, ℕ, zero, suc, ◌+◌, ◌-◌, ◌<◌, ◌≤◌, Bool, true, false, not, cond, if◌then◌else◌, List, [], ◌∷◌, ◌++◌}
use Rattle.std.proofs.Common.{map, length, take, get_or, sym, refl, ap, ◌∙◌, subst, arith, append_assoc, length-append}
use Rattle.std.specs.List.{filter, flat_map, range_with_len}
use Rattle.oth_pieces.specs.Frontier.{below}
use Rattle.std.proofs.lemmas.List.{map-append}
use Rattle.std.proofs.lemmas.List.Elements.{filter-append}
use Rattle.oth_rules.specs.Square.{squares}
use Rattle.oth_rules.specs.Position.{Position}
use Rattle.oth_rules.specs.Move.{is_legal, legal_squares}
use Rattle.oth_pieces.specs.declared.frontier.item.Item.{Item}

pub range_split : (a n m : ℕ) → range_with_len a (n + m) ≡ range_with_len a n ++ range_with_len (a + n) m
range_split a zero m = let e : 0 + m ≡ m = omega arith in let f : a + 0 ≡ a = omega arith in (λ i. range_with_len (sym f i) (e i))
range_split a (suc n) m =
    let e : suc n + m ≡ suc (n + m) = omega arith in
    let f : (a + 1) + n ≡ a + suc n = omega arith in
    ap (range_with_len a) e ∙ ap (λ l. a ∷ l) (range_split (a + 1) n m ∙ ap (λ b. range_with_len (a + 1) n ++ range_with_len b m) f)

map_cond : (item : ℕ → Item) (s : ℕ) (b : Bool) → map item (cond b (s ∷ []) []) ≡ cond b (item s ∷ []) []
map_cond item s true = refl
map_cond item s false = refl

pub zero_plus : (n : ℕ) → 0 + n ≡ n
zero_plus n = omega arith

module _ (legal : ℕ → Bool) (item : ℕ → Item) where
  -- the items of the squares below n
  abbrev pub items_below : ℕ → List Item
  items_below n = map item (filter legal (range_with_len 0 n))

  -- the item of one square, where the move is legal
  abbrev pub item_at : ℕ → List Item
  item_at s = if legal s then item s ∷ [] else []

  one_item : (s : ℕ) → map item (filter legal (s ∷ [])) ≡ item_at s
  one_item s = map_cond item s (legal s)

  pub items_below-more : (n : ℕ) → items_below (n + 1) ≡ items_below n ++ item_at n
  items_below-more n =
      let split : range_with_len 0 (n + 1) ≡ range_with_len 0 n ++ n ∷ [] = range_split 0 n 1 ∙ ap (λ k. range_with_len 0 n ++ k ∷ []) (zero_plus n) in
      ap (λ l. map item (filter legal l)) split
      ∙ (ap (map item) (filter-append legal (range_with_len 0 n) (n ∷ [])) ∙ (map-append item (filter legal (range_with_len 0 n)) (filter legal (n ∷ [])) ∙ ap (λ l. items_below n ++ l) (one_item n)))

  pub items_below-room : (n m : ℕ) → length (items_below n) ≤ length (items_below (n + m))
  items_below-room n m =
      let split : items_below (n + m) ≡ items_below n ++ map item (filter legal (range_with_len (0 + n) m)) =
      ap (λ l. map item (filter legal l)) (range_split 0 n m)
      ∙ (ap (map item) (filter-append legal (range_with_len 0 n) (range_with_len (0 + n) m)) ∙ map-append item (filter legal (range_with_len 0 n)) (filter legal (range_with_len (0 + n) m))) in
      omega (arith, ap length split, length-append (items_below n) (map item (filter legal (range_with_len (0 + n) m))))

  pub grows : (start items items' : List Item) (n : ℕ) → items ≡ start ++ items_below n → items' ≡ items ++ item_at n → items' ≡ start ++ items_below (n + 1)
  grows start items items' n is more = more ∙ (ap (λ l. l ++ item_at n) is ∙ (append_assoc start (items_below n) (item_at n) ∙ ap (λ l. start ++ l) (sym (items_below-more n))))

  pub room : (most : ℕ) (start items : List Item) (n : ℕ) → items ≡ start ++ items_below n → n < 64 → length start + length (items_below 64) ≤ most → length items + length (item_at n) ≤ most
  room most start items n is below fits =
      let all : (n + 1) + (63 - n) ≡ 64 = omega arith in
      let most : length (items_below (n + 1)) ≤ length (items_below 64) =
      let P : ℕ → Type 0 = λ k. length (items_below (n + 1)) ≤ length (items_below k) in subst P all (items_below-room (n + 1) (63 - n)) in
      omega (arith, ap length is, length-append start (items_below n), ap length (items_below-more n), length-append (items_below n) (item_at n))

pub whole : (p : Position) (item : ℕ → Item) → items_below (is_legal p) item 64 ≡ map item (legal_squares p)
unfolding legal_squares squares
whole p item = refl

-- what is below one of the items has room beside what is below those before it
pub room_below : (xs : List Item) (i : ℕ) (x : Item) → i < length xs → x ≡ get_or xs i x → length (flat_map below (take i xs)) + length (below x) ≤ length (flat_map below xs)
room_below [] i x inside is = absurd (omega arith)
room_below (y ∷ ys) zero x inside is = let same : length (below x) ≡ length (below y) = ap (λ z. length (below z)) is in omega (arith, length-append (below y) (flat_map below ys))
room_below (y ∷ ys) (suc i) x inside is = let rest = room_below ys i x (omega arith) is in
    omega (arith, length-append (below y) (flat_map below ys), length-append (below y) (flat_map below (take i ys)))
