-- How many items there are: as many as moves after the move to a board, and no more in a frontier of a board with at most 30 empty
-- squares than there is room for.
use Rattle.std.specs.Prelude.{count_ones}
use Rattle.std.proofs.Common.{◌≡◌, ℕ, zero, suc, ◌+◌, ◌*◌, ◌<◌, ◌≤◌, Bool, true, false, cond, ◌&&◌, List, [], ◌∷◌, map, length, get_or, refl, sym, ◌∙◌, arith}
use Rattle.std.specs.List.{filter, flat_map, range_with_len, All}
use Rattle.std.proofs.lemmas.Bool.{false≢true}
use Rattle.std.proofs.lemmas.List.{length-map, length-append, get_or_default}
use Rattle.std.proofs.lemmas.List.Elements.{All-head, All-tail}
use Rattle.std.proofs.lemmas.List.Sums.{length-filter}
use Rattle.oth_rules.specs.Square.{squares, directions, word_of}
use Rattle.oth_rules.specs.Position.{Position, is_empty, empty_count, pass}
use Rattle.oth_rules.specs.Move.{is_legal, legal_squares, is_over, after}
use Rattle.oth_rules.specs.Line.{outflanks}
use Rattle.oth_rules.specs.Laws.{IsLegal}
use Rattle.std.specs.List.{list_any}
use Rattle.oth_rules.proofs.Counts.{ones-word_of}
use Rattle.oth_rules.proofs.Legal.{legal-is}
use Rattle.oth_rules.proofs.SearchLaws.{empty_count-after, empty_count-pass, IsLegal-from_contains}
use Rattle.oth_pieces.specs.declared.frontier.TheConstants.{MOST_ITEMS}
use Rattle.oth_pieces.specs.declared.frontier.item.Item.{Item}
use Rattle.oth_pieces.specs.Frontier.{awake, only_passes, item_after, children, move_of, one_ply, below, two_plies}

fewer : (f g : ℕ → Bool) (a n : ℕ) → ((s : ℕ) → s < a + n → f s ≡ true → g s ≡ true) → length (filter f (range_with_len a n)) ≤ length (filter g (range_with_len a n))
fewer f g a zero each = omega arith
fewer f g a (suc n) each =
    step (f a) (g a) (each a (omega arith)) (fewer f g (a + 1) n (λ s l. each s (omega arith)))
  where
    step : (x y : Bool) → (x ≡ true → y ≡ true) → length (filter f (range_with_len (a + 1) n)) ≤ length (filter g (range_with_len (a + 1) n))
        → length (cond x (a ∷ filter f (range_with_len (a + 1) n)) (filter f (range_with_len (a + 1) n)))
        ≤ length (cond y (a ∷ filter g (range_with_len (a + 1) n)) (filter g (range_with_len (a + 1) n)))
    step true true h rest = omega arith
    step true false h rest = absurd (false≢true (h refl))
    step false true h rest = omega arith
    step false false h rest = rest

-- a move goes to an empty square
pub most_moves : (p : Position) → length (legal_squares p) ≤ empty_count p
unfolding legal_squares squares empty_count
most_moves p =
    let few = fewer (is_legal p) (is_empty p) 0 64 (λ s l h. left (is_empty p s) (list_any (outflanks p s) directions) (sym (legal-is p s l) ∙ h)) in
    omega (arith, length-filter (is_empty p) (range_with_len 0 64))
  where
    left : (a b : Bool) → (a && b) ≡ true → a ≡ true
    left true b h = refl
    left false b h = h

pub awake_count : (p : Position) → empty_count (awake p) ≡ empty_count p
awake_count p = at (only_passes p)
  where
    at : (b : Bool) → empty_count (cond b (pass p) p) ≡ empty_count p
    at true = empty_count-pass p
    at false = refl

few_below : (i : Item) → empty_count i.board ≤ 29 → length (below i) ≤ 29
few_below i few = at (is_over i.board)
  where
    at : (b : Bool) → length (cond b (i ∷ []) (children i)) ≤ 29
    at true = omega arith
    at false = omega (arith, length-map (legal_squares i.board) (λ s. item_after i (after i.board s)), most_moves i.board)

all_below : (r : Position) → empty_count r ≤ 30 → (xs : List ℕ) → All (IsLegal r) xs → length (flat_map below (map (move_of r) xs)) ≤ 29 * length xs
all_below r few [] all = omega arith
all_below r few (s ∷ xs) all =
    let rest = all_below r few xs (All-tail (IsLegal r) s xs all) in
    let legal : IsLegal r s = All-head (IsLegal r) s xs all in
    let one = few_below (move_of r s) (omega (arith, awake_count (after r s), empty_count-after r s legal)) in
    omega (arith, length-append (below (move_of r s)) (flat_map below (map (move_of r) xs)))

all_legal : (r : Position) → All (IsLegal r) (legal_squares r)
all_legal r k d within = IsLegal-from_contains r (get_or (legal_squares r) k d) (k, within, get_or_default (legal_squares r) k (get_or (legal_squares r) k d) d within)

pub one_room : (p : Position) → empty_count p ≤ 30 → length (one_ply p) ≤ 64
one_room p few = omega (arith, length-map (legal_squares (awake p)) (move_of (awake p)), most_moves (awake p), awake_count p)

pub two_room : (p : Position) → empty_count p ≤ 30 → length (two_plies p) ≤ MOST_ITEMS
two_room p few =
    let r : Position = awake p in
    let same = awake_count p in
    let most = all_below r (omega arith) (legal_squares r) (all_legal r) in
    omega (arith, most_moves r)

-- where the game goes on after a move, the items below are as many as the moves that follow
pub counted_below : (parent : Item) (p : Position) → is_over (awake p) ≡ false → count_ones (word_of (is_legal (awake p))) ≡ length (below (item_after parent p))
unfolding legal_squares
counted_below parent p on =
    ones-word_of (is_legal (awake p)) ∙ (sym (length-filter (is_legal (awake p)) squares) ∙ at (is_over (awake p)) on)
  where
    at : (b : Bool) → b ≡ false → length (filter (is_legal (awake p)) squares) ≡ length (cond b (item_after parent p ∷ []) (children (item_after parent p)))
    at false e = sym (length-map (legal_squares (awake p)) (λ s. item_after (item_after parent p) (after (awake p) s)))
    at true e = absurd (false≢true (sym e))
