-- Where a board stands in a book, and its answer there.
use Rattle.std.proofs.Common.{◌≡◌, ℕ, ◌<◌, ◌≤◌, inl, inr, List, [], ◌∷◌, length, get_or, arith, sym, ap, ◌∙◌, refl, lit≤, zero, suc, ◌^◌, ℤ}
use Rattle.std.specs.declared.cmp.Ordering.{Ordering}
use Rattle.std.specs.declared.cmp.Ordering.TheVariants.{Less, Equal, Greater}
use Rattle.std.specs.Ordering.{ordering_index, ordering_reverse}
use Rattle.std.specs.List.Sorted.{IsNonDecreasingBy, IsSearchInRange, IsBinarySearchResult}
use Rattle.std.specs.Result.{MatchResult, IfOk, IfErr}
use Rattle.std.specs.Prelude.{Result, Ok, Err}
use Rattle.std.proofs.lemmas.Bool.{cases_eq, cases_lt}
use Rattle.std.proofs.lemmas.Cmp.{nat_list_cmp_total}
use Rattle.std.proofs.lemmas.Map.Lookups.{exact_bytes}
use Rattle.std.proofs.lemmas.Int.{ints}
use Rattle.oth_rules.specs.Position.{Position, IsBoard, empty_count}
use Rattle.oth_rules.specs.Symmetry.{image, map_word, unmap_word, map_square, unmap_square, canonical, IsLeastImage}
use Rattle.oth_rules.specs.Score.{score_of}
use Rattle.oth_rules.specs.Value.{value, is_best}
use Rattle.oth_rules.specs.declared.scoring.Scoring.{Scoring}
use Rattle.oth_rules.proofs.Carried.{empty_count-moved}
use Rattle.oth_rules.proofs.Symmetries.{image-moved, carries, value-image, best-image-word}
use Rattle.oth_rules.proofs.Canonical.{canonical-least, value-canonical, IsBoard-canonical, canonical-canonical}
use Rattle.oth_rules.proofs.Exchanges.{unmap_map}
use Rattle.oth_rules.proofs.Words.{word_fits}
use Rattle.oth_rules.proofs.SearchLaws.{IsScore-value}
use Rattle.oth_rules.specs.Laws.{IsScore}
use Rattle.oth_search.specs.Bounds.Interval.{Encloses, IsInterval}
use Rattle.oth_search.specs.declared.bounds.answer.Answer.{Answer}
use Rattle.oth_book.specs.declared.claim.Claim.{Claim}
use Rattle.oth_book.specs.Order.{cells, board_cmp, IsBelow}
use Rattle.oth_book.specs.True.{best_word, IsExact}
use Rattle.oth_book.specs.Book.{IsTrueBook, IsBookEntry, IsEntryOf, IsGap, Has, HasBoard}
use Rattle.oth_book.specs.Add.{answer_entry}
use Rattle.oth_book.proofs.CellLemmas.{cells-injective}

-- boards that compare as equal are the same
pub same_board : (p q : Position) → IsBoard p → IsBoard q → board_cmp p q ≡ Equal → p ≡ q
unfolding board_cmp
same_board p q hp hq e = cells-injective p q hp hq (exact_bytes (cells p) (cells q) e)

pub board_cmp-same : (p : Position) → board_cmp p p ≡ Equal
unfolding board_cmp
board_cmp-same p = equal_reverse _ (nat_list_cmp_total.antisymm (cells p) (cells p))
  where
    equal_reverse : (o : Ordering) → o ≡ ordering_reverse o → o ≡ Equal
    equal_reverse Less h = cc
    equal_reverse Equal h = refl
    equal_reverse Greater h = cc

below_trans : (p q r : Position) → IsBelow p q → IsBelow q r → IsBelow p r
unfolding board_cmp
below_trans p q r a b = nat_list_cmp_total.trans (cells p) (cells q) (cells r) a b

pub greater_below : (p q : Position) → board_cmp p q ≡ Greater → IsBelow q p
unfolding board_cmp
greater_below p q h = nat_list_cmp_total.antisymm (cells q) (cells p) ∙ ap ordering_reverse h

-- how the entries compare to a board does not fall along a book
index_rises : (p q board : Position) (o : Ordering) → IsBoard q → IsBoard board → IsBelow p q → board_cmp q board ≡ o → ordering_index (board_cmp p board) ≤ ordering_index o
index_rises p q board Less hq hb below e = rw (below_trans p q board below e) (lit≤ tt)
index_rises p q board Equal hq hb below e = let same = same_board q board hq hb e in let less : board_cmp p board ≡ Less = ap (board_cmp p) (sym same) ∙ below in rw less (lit≤ tt)
index_rises p q board Greater hq hb below e = index_bound (board_cmp p board)
  where
    index_bound : (o : Ordering) → ordering_index o ≤ 2
    index_bound Less = lit≤ tt
    index_bound Equal = lit≤ tt
    index_bound Greater = lit≤ tt

abbrev pub TrueBook : Scoring → List Claim → Type 0
TrueBook g entries = IsTrueBook (record { scoring = g; entries = entries })

pub rises : (g : Scoring) (entries : List Claim) (board : Position) → TrueBook g entries → IsBoard board → IsNonDecreasingBy (λ c. ordering_index (board_cmp c.board board)) entries
rises g entries board book valid i j d h k =
    elim (cases_eq i j) [
      | inl e ↦ rw e (omega arith)
      | inr ne ↦ index_rises (get_or entries i d).board (get_or entries j d).board board _ (book.each j d k).board valid (book.rising i j d (omega arith) k) refl
    ]

not_below_itself : (p : Position) → IsBelow p p → ⊥
not_below_itself p h = let e : Less ≡ Equal = sym h ∙ board_cmp-same p in cc

same_default : (xs : List Claim) (i : ℕ) (a b : Claim) → i < length xs → get_or xs i a ≡ get_or xs i b
same_default [] i a b h = absurd (omega arith)
same_default (x ∷ xs) zero a b h = refl
same_default (x ∷ xs) (suc i) a b h = same_default xs i a b (omega arith)

-- a board that stands nowhere in the book
pub gap_absent : (entries : List Claim) (i : ℕ) (board : Position) → IsGap entries i board → HasBoard entries board → ⊥
gap_absent entries i board gap has =
    let c = has.2.entry in
    let at = has.2.there in
    let is : (get_or entries at.0 c).board ≡ board = ap (λ x. x.board) at.2 ∙ has.2.board in
    elim (cases_lt at.0 i) [
      | inl below ↦ not_below_itself board (rw is at (gap.below at.0 c (omega arith) below))
      | inr above ↦ not_below_itself board (rw is at (gap.above at.0 c above at.1))
    ]

pub entry_has : (entries : List Claim) (i : ℕ) (board : Position) (c : Claim) → IsEntryOf entries i board → c ≡ get_or entries i c → Has entries board c.lower c.upper
entry_has entries i board c at is = record {
  entry = c;
  there = (i, at.within, sym is);
  board = ap (λ x. x.board) is ∙ at.same c;
  lower_is = refl;
  upper_is = refl;
}

-- a board stands at one place
one_place : (g : Scoring) (entries : List Claim) (i j : ℕ) (d : Claim) (board : Position) → TrueBook g entries → i < length entries → j < length entries
    → (get_or entries i d).board ≡ board → (get_or entries j d).board ≡ board → i ≡ j
one_place g entries i j d board book hi hj a b =
    elim (cases_lt i j) [
      | inl below ↦ absurd (not_below_itself board (rw (a, b) at (book.rising i j d below hj)))
      | inr above ↦ elim (cases_eq i j) [
        | inl same ↦ same
        | inr other ↦ absurd (not_below_itself board (rw (b, a) at (book.rising j i d (omega arith) hi)))
      ]
    ]

-- the entry at the board's place is the one that the book has
pub kept_is : (g : Scoring) (entries : List Claim) (i : ℕ) (board : Position) (c : Claim) (l u : ℤ) → TrueBook g entries → IsEntryOf entries i board → c ≡ get_or entries i c → Has entries board l u
    → (c.lower ≡ l) × (c.upper ≡ u)
kept_is g entries i board c l u book at is has =
    let d = has.entry in
    let place = one_place g entries i has.there.0 d board book at.within has.there.1 (at.same d) (ap (λ x. x.board) has.there.2 ∙ has.board) in
    let same : c ≡ d = is ∙ same_default entries i c d at.within ∙ ap (λ k. get_or entries k d) place ∙ has.there.2 in
    (ap (λ x. x.lower) same ∙ has.lower_is, ap (λ x. x.upper) same ∙ has.upper_is)

pub entry_true : (g : Scoring) (entries : List Claim) (i : ℕ) (board : Position) (c : Claim) → TrueBook g entries → IsEntryOf entries i board → c ≡ get_or entries i c → IsBookEntry g c
entry_true g entries i board c book at is = rw (← is) at (book.each i c at.within)

-- what a binary search by the order of boards finds in a book
pub searched : (g : Scoring) (entries : List Claim) (board : Position) (r : Result ℕ ℕ) → TrueBook g entries → IsBoard board → IsSearchInRange r (length entries)
    → IsBinarySearchResult (λ c. board_cmp c.board board) entries r → MatchResult r (λ i. IsEntryOf entries i board) (λ i. IsGap entries i board)
searched g entries board (Ok i) book valid range is = record {
  within = range;
  same = λ a. same_board (get_or entries i a).board board (book.each i a range).board valid (is a);
}
searched g entries board (Err i) book valid range is =
    let point = is (rises g entries board book valid) in
    record {
      within = range;
      below = point.0;
      above = λ k d h w. greater_below (get_or entries k d).board board (point.1 k d h w);
    }

-- each half by itself
pub found_only : (r : Result ℕ ℕ) (P Q : ℕ → Type 0) → MatchResult r P Q → IfOk r P
found_only (Ok i) P Q h = h
found_only (Err i) P Q h = tt

pub absent_only : (r : Result ℕ ℕ) (P Q : ℕ → Type 0) → MatchResult r P Q → IfErr r Q
absent_only (Ok i) P Q h = tt
absent_only (Err i) P Q h = h

-- ---- answers and bounds by entries

pub empties-image : (s : ℕ) (p : Position) → s < 8 → empty_count (image s p) ≡ empty_count p
empties-image s p h = ap empty_count (image-moved s p) ∙ empty_count-moved (unmap_square s) (map_square s) _ (carries s h) p

pub empties-canonical : (p : Position) → empty_count (canonical p) ≡ empty_count p
empties-canonical p =
    let least = canonical-least p in
    ap empty_count least.1.image_by ∙ empties-image least.0 p least.1.valid

pub best_word-fits : (g : Scoring) (p : Position) → best_word g p < 2 ^ 64
best_word-fits g p = word_fits (best_word g p) (is_best (score_of g) p) refl

-- the entry of an answer
pub answer_true : (a : Answer) (image_is : Position) (s w : ℕ) → empty_count a.board ≤ 30 → image_is ≡ canonical a.board → IsLeastImage a.board image_is s → w ≡ map_word s a.best
    → IsBookEntry a.scoring (answer_entry a) × (w ≡ best_word a.scoring (canonical a.board))
answer_true a p s w few is least word = (
  record {
    holds = record {
      empties = rw (empties-canonical a.board) few;
      bounds = let v = value-canonical a.scoring a.board in record { below = omega (arith, ints, a.is_value, v); above = omega (arith, ints, a.is_value, v) };
      best = λ h. refl;
    };
    board = IsBoard-canonical a.board;
    canonical = canonical-canonical a.board;
    interval = let v = IsScore-value a.scoring a.board in record { low = omega (arith, ints, v.low, a.is_value); ordered = omega (arith, ints); high = omega (arith, ints, v.high, a.is_value) };
    undecided = λ h. absurd (omega (arith, ints, h));
  },
  word ∙ ap (map_word s) a.are_best ∙ sym (best-image-word a.scoring s least.valid a.board) ∙ ap (best_word a.scoring) (sym least.image_by ∙ is),
)

-- an answer by an exact entry of the board's image
pub exact_value : (g : Scoring) (c : Claim) (p : Position) (s : ℕ) → IsBookEntry g c → IsExact c → c.board ≡ image s p → s < 8 → c.lower ≡ value (score_of g) p
exact_value g c p s entry exact is valid =
    let below = entry.holds.bounds.below in
    let above = entry.holds.bounds.above in
    let same : value (score_of g) c.board ≡ value (score_of g) p = ap (value (score_of g)) is ∙ value-image g s valid p in
    omega (arith, ints, below, above, exact, same)

pub exact_best : (g : Scoring) (c : Claim) (p : Position) (s : ℕ) → IsBookEntry g c → IsExact c → c.board ≡ image s p → s < 8 → unmap_word s c.best ≡ best_word g p
exact_best g c p s entry exact is valid =
    ap (unmap_word s) (entry.holds.best exact ∙ ap (best_word g) is ∙ best-image-word g s valid p) ∙ unmap_map s (best_word g p) valid (best_word-fits g p)

pub bounds_value : (g : Scoring) (c : Claim) (p : Position) → IsBookEntry g c → c.board ≡ canonical p → Encloses c.lower c.upper (value (score_of g) p)
bounds_value g c p entry is = rw (is, value-canonical g p) at (entry.holds.bounds)

pub answer_score : (a : Answer) → IsScore a.score
answer_score a = let v = IsScore-value a.scoring a.board in record { low = omega (arith, ints, v.low, a.is_value); high = omega (arith, ints, v.high, a.is_value) }

pub bounds_scores : {l u : ℤ} → IsInterval l u → IsScore l × IsScore u
bounds_scores {l} {u} h =
    let low = h.low in
    let ordered = h.ordered in
    let high = h.high in
    (record { low = low; high = omega (arith, ints) }, record { low = omega (arith, ints); high = high })
