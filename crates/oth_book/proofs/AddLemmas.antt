-- A book with one more entry.
use Rattle.std.proofs.Common.{◌≡◌, ◌≢◌, ℕ, ◌+◌, ◌-◌, ◌<◌, ◌≤◌, ◌⊎◌, inl, inr, List, ◌∷◌, ◌++◌, length, take, drop, get_or, insert, All, AllPairs}
use Rattle.std.proofs.Common.{arith, sym, ap, ◌∙◌, refl, suc, ℤ, pos, negsuc, ◌≤ℤ◌, cond, true, false, drop-cons, add-one}
use Rattle.std.proofs.lemmas.List.{take-append-drop}
use Rattle.std.proofs.lemmas.List.Edits.{length-insert, get_or-insert_at, get_or-insert_below, get_or-insert_above}
use Rattle.std.proofs.lemmas.Bool.{cases_eq, cases_lt}
use Rattle.std.proofs.lemmas.List.{length-set, get_or-set_same, get_or-set_other, take-set, drop-set}
use Rattle.std.proofs.Math.ListN.{set}
use Rattle.std.proofs.lemmas.Int.{ints}
use Rattle.std.specs.Int.{int_max, int_min}
use Rattle.std.specs.Prelude.{int_lt, Result, Ok, Err, IfOk, IfErr, OnOk, OnErr}
use Rattle.oth_rules.specs.Position.{empty_count}
use Rattle.oth_rules.specs.Symmetry.{canonical}
use Rattle.oth_rules.specs.Score.{score_of}
use Rattle.oth_rules.specs.Value.{value}
use Rattle.oth_rules.specs.declared.scoring.Scoring.{Scoring}
use Rattle.oth_rules.proofs.Values.{int_max-keeps}
use Rattle.oth_rules.proofs.Canonical.{value-canonical, IsBoard-canonical, canonical-canonical}
use Rattle.oth_search.specs.Bounds.Interval.{Encloses}
use Rattle.oth_search.specs.declared.bounds.solved.Solved.{Solved}
use Rattle.oth_book.specs.declared.claim.Claim.{Claim}
use Rattle.oth_book.specs.Order.{IsBelow}
use Rattle.oth_book.specs.Book.{IsBookEntry, IsGap, IsEntryOf}
use Rattle.oth_search.specs.declared.bounds.answer.Answer.{Answer}
use Rattle.oth_book.specs.Contents.{Contents}
use Rattle.oth_book.specs.declared.add.Added.{Added}
use Rattle.oth_book.specs.declared.add.Added.TheVariants as added
use Rattle.oth_book.specs.declared.add.AddError.{AddError}
use Rattle.oth_book.specs.declared.add.AddError.TheVariants as refused
use Rattle.oth_book.specs.True.{IsExact}
use Rattle.oth_book.specs.Add.{Inserts, Replaces, closer, bounds_entry, answer_entry, IsAdded, IsRefused, AreAdded, AreRefused, IsAskable, SameBounds, HasNoRoom, IsKept}
use Rattle.oth_book.proofs.BookLemmas.{TrueBook, empties-canonical, gap_absent, entry_has, entry_true}

-- where element k of the longer list comes from
abbrev From : List Claim → ℕ → Claim → ℕ → Claim → Type 0
From xs i e k d =
    ((k < i) × (get_or (insert xs i e) k d ≡ get_or xs k d))
    ⊎ (((k ≡ i) × (get_or (insert xs i e) k d ≡ e)) ⊎ ((i < k) × (get_or (insert xs i e) k d ≡ get_or xs (k - 1) d)))

comes_from : (xs : List Claim) (i : ℕ) (e : Claim) (k : ℕ) (d : Claim) → i ≤ length xs → From xs i e k d
comes_from xs i e k d h =
    elim (cases_lt k i) [
      | inl below ↦ inl (below, get_or-insert_below xs i e d k below h)
      | inr above ↦ elim (cases_eq k i) [
        | inl same ↦ inr (inl (same, ap (λ n. get_or (insert xs i e) n d) same ∙ get_or-insert_at xs i e d h))
        | inr ne ↦ let back : k ≡ k - 1 + 1 = omega arith in
            inr (inr (omega arith, ap (λ n. get_or (insert xs i e) n d) back ∙ get_or-insert_above xs i e d (k - 1) (omega arith) h))
      ]
    ]

each_inserted : (P : Claim → Type 0) (xs : List Claim) (i : ℕ) (e : Claim) → i ≤ length xs → All P xs → P e → All P (insert xs i e)
each_inserted P xs i e h each one k d w =
    let len = length-insert xs i e h in
    elim (comes_from xs i e k d h) [
      | inl c ↦ rw c.1 (each k d (omega (arith, c.0, len)))
      | inr c ↦ elim c [
        | inl c ↦ rw c.1 one
        | inr c ↦ rw c.1 (each (k - 1) d (omega (arith, c.0, len)))
      ]
    ]

abbrev Rising : Claim → Claim → Type 0
Rising a b = IsBelow a.board b.board

rising_inserted : (xs : List Claim) (i : ℕ) (e : Claim) → AllPairs Rising xs → IsGap xs i e.board → AllPairs Rising (insert xs i e)
rising_inserted xs i e rising gap j k d h w =
    let len = length-insert xs i e gap.within in
    elim (comes_from xs i e j d gap.within) [
      | inl a ↦ elim (comes_from xs i e k d gap.within) [
        | inl b ↦ rw (a.1, b.1) (rising j k d h (omega (arith, b.0, len, gap.within)))
        | inr b ↦ elim b [
          | inl b ↦ rw (a.1, b.1) (gap.below j d (omega arith) a.0)
          | inr b ↦ rw (a.1, b.1) (rising j (k - 1) d (omega (arith, a.0, b.0)) (omega (arith, b.0, len)))
        ]
      ]
      | inr a ↦ elim a [
        | inl a ↦ elim (comes_from xs i e k d gap.within) [
          | inl b ↦ absurd (omega (arith, a.0, b.0))
          | inr b ↦ elim b [
            | inl b ↦ absurd (omega (arith, a.0, b.0))
            | inr b ↦ rw (a.1, b.1) (gap.above (k - 1) d (omega (arith, b.0)) (omega (arith, b.0, len)))
          ]
        ]
        | inr a ↦ elim (comes_from xs i e k d gap.within) [
          | inl b ↦ absurd (omega (arith, a.0, b.0))
          | inr b ↦ elim b [
            | inl b ↦ absurd (omega (arith, a.0, b.0))
            | inr b ↦ rw (a.1, b.1) (rising (j - 1) (k - 1) d (omega (arith, a.0, b.0)) (omega (arith, b.0, len)))
          ]
        ]
      ]
    ]

pub book_insert : (g : Scoring) (xs : List Claim) (i : ℕ) (e : Claim) → TrueBook g xs → length xs < 100000 → IsBookEntry g e → IsGap xs i e.board → TrueBook g (insert xs i e)
book_insert g xs i e book room entry gap = record {
  count = let len = length-insert xs i e gap.within in omega (arith, len, room);
  each = each_inserted (IsBookEntry g) xs i e gap.within book.each entry;
  rising = rising_inserted xs i e book.rising gap;
}

abbrev pub book_of : Scoring → List Claim → Contents
book_of g entries = record { scoring = g; entries = entries }

-- std's insert, in two parts
pub inserts : (g : Scoring) (xs : List Claim) (i : ℕ) (e : Claim) → Inserts (book_of g xs) (book_of g (insert xs i e)) e
inserts g xs i e = record { scoring = refl; front = take i xs; back = drop i xs; before = sym (take-append-drop i xs); after = refl }

-- ---- an entry in place of another of the same board

set_board : (xs : List Claim) (i : ℕ) (e : Claim) (k : ℕ) (d : Claim) → IsEntryOf xs i e.board → (get_or (set xs i e) k d).board ≡ (get_or xs k d).board
set_board xs i e k d at =
    elim (cases_eq k i) [
      | inl same ↦ ap (λ n. (get_or (set xs i e) n d).board) same ∙ ap (λ c. c.board) (get_or-set_same xs i e d at.within) ∙ sym (at.same d) ∙ ap (λ n. (get_or xs n d).board) (sym same)
      | inr other ↦ ap (λ c. c.board) (get_or-set_other xs i k e d other)
    ]

each_set : (P : Claim → Type 0) (xs : List Claim) (i : ℕ) (e : Claim) → All P xs → P e → All P (set xs i e)
each_set P xs i e each one k d w =
    let len = length-set xs i e in
    elim (cases_eq k i) [
      | inl same ↦ rw (same, get_or-set_same xs i e d (omega (arith, len, same, w))) one
      | inr other ↦ rw (get_or-set_other xs i k e d other) (each k d (omega (arith, len, w)))
    ]

pub book_set : (g : Scoring) (xs : List Claim) (i : ℕ) (e : Claim) → TrueBook g xs → IsBookEntry g e → IsEntryOf xs i e.board → TrueBook g (set xs i e)
book_set g xs i e book entry at =
    let len = length-set xs i e in
    record {
      count = let count = book.count in omega (arith, len, count);
      each = each_set (IsBookEntry g) xs i e book.each entry;
      rising = λ j k d h w. rw (set_board xs i e j d at, set_board xs i e k d at) (book.rising j k d h (omega (arith, len, w)));
    }

pub replaces : (g : Scoring) (xs : List Claim) (i : ℕ) (c e : Claim) → i < length xs → c ≡ get_or xs i c → Replaces (book_of g xs) (book_of g (set xs i e)) c e
replaces g xs i c e h is = record {
  scoring = refl;
  front = take i xs;
  back = drop (i + 1) xs;
  before = sym (take-append-drop i xs) ∙ ap (λ ys. take i xs ++ ys) (drop-cons xs i c h ∙ ap (λ x. x ∷ drop (suc i) xs) (sym is) ∙ ap (λ k. c ∷ drop k xs) (sym (add-one i)));
  after = sym (take-append-drop i (set xs i e)) ∙ ap (λ ys. ys ++ drop i (set xs i e)) (take-set xs i e) ∙ ap (λ ys. take i xs ++ ys) (drop-set xs i e h);
}

-- the closer bounds of an entry are true
pub closer_true : (g : Scoring) (c : Claim) (s : Solved) → IsBookEntry g c → s.scoring ≡ g → c.board ≡ canonical s.board → (closer c s).lower ≢ (closer c s).upper → IsBookEntry g (closer c s)
closer_true g c s entry by is open_bounds =
    let v = value (score_of g) c.board in
    let kept = entry.holds.bounds in
    let same : value (score_of s.scoring) s.board ≡ v = ap (λ h. value (score_of h) s.board) by ∙ sym (value-canonical g s.board) ∙ ap (value (score_of g)) (sym is) in
    let given : Encloses s.interval.lower s.interval.upper v = rw same at s.encloses in
    let low : int_max c.lower s.interval.lower ≤ℤ v = max_below c.lower s.interval.lower v kept.below given.below in
    let high : v ≤ℤ int_min c.upper s.interval.upper = min_above c.upper s.interval.upper v kept.above given.above in
    record {
      holds = record { empties = entry.holds.empties; bounds = record { below = low; above = high }; best = λ h. absurd (open_bounds h) };
      board = entry.board;
      canonical = entry.canonical;
      interval = record {
        low = int_max-keeps (λ x. negsuc 63 ≤ℤ x) c.lower s.interval.lower entry.interval.low s.interval.is_interval.low;
        ordered = omega (arith, ints, low, high);
        high = min_keeps c.upper s.interval.upper (pos 64) entry.interval.high s.interval.is_interval.high;
      };
      undecided = λ h. refl;
    }
  where
    max_below : (a b v : ℤ) → a ≤ℤ v → b ≤ℤ v → int_max a b ≤ℤ v
    max_below a b v h k = int_max-keeps (λ x. x ≤ℤ v) a b h k

    min_above : (a b v : ℤ) → v ≤ℤ a → v ≤ℤ b → v ≤ℤ int_min a b
    min_above a b v h k = elim (int_lt b a) as (λ t. v ≤ℤ cond t b a) [ true ↦ k | false ↦ h ]

    min_keeps : (a b x : ℤ) → a ≤ℤ x → b ≤ℤ x → int_min a b ≤ℤ x
    min_keeps a b x h k = elim (int_lt b a) as (λ t. cond t b a ≤ℤ x) [ true ↦ k | false ↦ h ]

pub bounds_true : (g : Scoring) (s : Solved) → s.scoring ≡ g → empty_count s.board ≤ 30 → s.interval.lower ≢ s.interval.upper → IsBookEntry g (bounds_entry s)
bounds_true g s by few open_bounds = record {
  holds = record {
    empties = rw (empties-canonical s.board) few;
    bounds = rw (value-canonical g s.board, ← by) s.encloses;
    best = λ h. absurd (open_bounds h);
  };
  board = IsBoard-canonical s.board;
  canonical = canonical-canonical s.board;
  interval = s.interval.is_interval;
  undecided = λ h. refl;
}

-- ---- what an addition tells

-- what was put in, or not
pub record IsPut (old new : List Claim) (i : ℕ) (e : Claim) (r : Result Added AddError) : Type 0 where
  pub inserted : IfOk r (λ done. (done ≡ added.New) × (new ≡ insert old i e))
  pub full : IfErr r (λ why. HasNoRoom old why)
  pub room : OnOk r (length old < 100000)
  pub unchanged : OnErr r (new ≡ old)

pub put_true : (g : Scoring) (old new : List Claim) (i : ℕ) (e : Claim) (r : Result Added AddError) → TrueBook g old → IsBookEntry g e → IsGap old i e.board → IsPut old new i e r → TrueBook g new
put_true g old new i e (Ok done) book entry gap put = rw put.inserted.1 (book_insert g old i e book put.room entry gap)
put_true g old new i e (Err why) book entry gap put = rw put.unchanged book

pub answer_new : (g : Scoring) (old new : List Claim) (i : ℕ) (e : Claim) (a : Answer) (r : Result Added AddError) → e ≡ answer_entry a → IsGap old i e.board → IsPut old new i e r
    → IfOk r (λ done. IsAdded (book_of g old) (book_of g new) a done)
answer_new g old new i e a (Ok added.New) is gap put =
    (gap_absent old i (canonical a.board) (rw is at gap), rw (← is, put.inserted.1) (inserts g old i e))
answer_new g old new i e a (Ok added.Present) is gap put = absurd (let no : added.Present ≡ added.New = put.inserted.0 in cc)
answer_new g old new i e a (Ok added.Sharper) is gap put = absurd (let no : added.Sharper ≡ added.New = put.inserted.0 in cc)
answer_new g old new i e a (Err why) is gap put = tt

pub answer_refused : (g : Scoring) (old new : List Claim) (i : ℕ) (e : Claim) (a : Answer) (r : Result Added AddError) → a.scoring ≡ g → e ≡ answer_entry a → IsGap old i e.board → IsPut old new i e r
    → IfErr r (λ why. IsRefused (book_of g old) a why)
answer_refused g old new i e a (Ok done) by is gap put = tt
answer_refused g old new i e a (Err refused.Memory) by is gap put = (by, gap_absent old i (canonical a.board) (rw is at gap), put.full)
answer_refused g old new i e a (Err refused.Full) by is gap put = (by, gap_absent old i (canonical a.board) (rw is at gap), put.full)
answer_refused g old new i e a (Err refused.Scoring) by is gap put = absurd (put.full)
answer_refused g old new i e a (Err refused.OneNumber) by is gap put = absurd (put.full)
answer_refused g old new i e a (Err refused.Empties) by is gap put = absurd (put.full)

pub answer_present : (g : Scoring) (old : List Claim) (i : ℕ) (kept e : Claim) (a : Answer) → e ≡ answer_entry a → IsEntryOf old i e.board → kept ≡ get_or old i kept → IsExact kept
    → IsAdded (book_of g old) (book_of g old) a added.Present
answer_present g old i kept e a is at there exact =
    let has = entry_has old i (canonical a.board) kept (rw is at at) there in
    ((kept.lower, rw (← exact) at has), refl)

pub answer_sharper : (g : Scoring) (old : List Claim) (i : ℕ) (kept e : Claim) (a : Answer) → e ≡ answer_entry a → IsEntryOf old i e.board → kept ≡ get_or old i kept → (IsExact kept → ⊥)
    → IsAdded (book_of g old) (book_of g (set old i e)) a added.Sharper
answer_sharper g old i kept e a is at there inexact =
    (kept, ap (λ c. c.board) there ∙ at.same kept ∙ ap (λ c. c.board) is, inexact, rw (← is) (replaces g old i kept e at.within there))

pub bounds_new : (g : Scoring) (old new : List Claim) (i : ℕ) (e : Claim) (s : Solved) (r : Result Added AddError) → e ≡ bounds_entry s → (IsExact e → ⊥) → IsGap old i e.board → IsPut old new i e r
    → IfOk r (λ done. AreAdded (book_of g old) (book_of g new) s done)
bounds_new g old new i e s (Ok added.New) is inexact gap put =
    (gap_absent old i (canonical s.board) (rw is at gap), rw is at inexact, rw (← is, put.inserted.1) (inserts g old i e))
bounds_new g old new i e s (Ok added.Present) is inexact gap put = absurd (let no : added.Present ≡ added.New = put.inserted.0 in cc)
bounds_new g old new i e s (Ok added.Sharper) is inexact gap put = absurd (let no : added.Sharper ≡ added.New = put.inserted.0 in cc)
bounds_new g old new i e s (Err why) is inexact gap put = tt

pub bounds_refused : (g : Scoring) (old new : List Claim) (i : ℕ) (e : Claim) (s : Solved) (r : Result Added AddError) → IsAskable (book_of g old) s → e ≡ bounds_entry s
    → (IsExact e → ⊥) → IsGap old i e.board
    → IsPut old new i e r → IfErr r (λ why. AreRefused (book_of g old) s why)
bounds_refused g old new i e s (Ok done) asked is inexact gap put = tt
bounds_refused g old new i e s (Err refused.Memory) asked is inexact gap put = (asked, gap_absent old i (canonical s.board) (rw is at gap), rw is at inexact, put.full)
bounds_refused g old new i e s (Err refused.Full) asked is inexact gap put = (asked, gap_absent old i (canonical s.board) (rw is at gap), rw is at inexact, put.full)
bounds_refused g old new i e s (Err refused.Scoring) asked is inexact gap put = absurd (put.full)
bounds_refused g old new i e s (Err refused.OneNumber) asked is inexact gap put = absurd (put.full)
bounds_refused g old new i e s (Err refused.Empties) asked is inexact gap put = absurd (put.full)

kept_entry : (g : Scoring) (old : List Claim) (i : ℕ) (kept e : Claim) (s : Solved) → e ≡ bounds_entry s → IsEntryOf old i e.board → kept ≡ get_or old i kept → IsKept (book_of g old) s.board kept
kept_entry g old i kept e s is at there = record { there = (i, at.within, sym there); board = ap (λ c. c.board) there ∙ at.same kept ∙ ap (λ c. c.board) is }

pub bounds_one_new : (g : Scoring) (old : List Claim) (i : ℕ) (e : Claim) (s : Solved) → IsAskable (book_of g old) s → e ≡ bounds_entry s → IsGap old i e.board → IsExact e
    → AreRefused (book_of g old) s refused.OneNumber
bounds_one_new g old i e s asked is gap exact = (asked, inr (gap_absent old i (canonical s.board) (rw is at gap), rw is at exact))

pub bounds_sharper : (g : Scoring) (old : List Claim) (i : ℕ) (kept e d : Claim) (s : Solved) → e ≡ bounds_entry s → IsEntryOf old i e.board → kept ≡ get_or old i kept → d ≡ closer kept s
    → (SameBounds d kept → ⊥) → (IsExact d → ⊥) → AreAdded (book_of g old) (book_of g (set old i d)) s added.Sharper
bounds_sharper g old i kept e d s is at there closer_is other inexact =
    (kept, kept_entry g old i kept e s is at there, rw closer_is at other, rw closer_is at inexact, rw (← closer_is) (replaces g old i kept d at.within there))

-- the closer entry keeps the book true
pub closer_set : (g : Scoring) (old : List Claim) (i : ℕ) (kept e d : Claim) (s : Solved) → TrueBook g old → s.scoring ≡ g → e ≡ bounds_entry s → IsEntryOf old i e.board
    → kept ≡ get_or old i kept → d ≡ closer kept s
    → (IsExact d → ⊥) → TrueBook g (set old i d)
closer_set g old i kept e d s book by is at there closer_is inexact =
    let board : kept.board ≡ e.board = ap (λ c. c.board) there ∙ at.same kept in
    let entry : IsBookEntry g d = rw closer_is (closer_true g kept s (entry_true g old i e.board kept book at there) by (board ∙ ap (λ c. c.board) is) (rw closer_is at inexact)) in
    let place : d.board ≡ e.board = ap (λ c. c.board) closer_is ∙ board in
    book_set g old i d book entry (rw (← place) at at)

pub is_put : (old new : List Claim) (i : ℕ) (e : Claim) (r : Result Added AddError) → IfOk r (λ done. (done ≡ added.New) × (new ≡ insert old i e)) → IfErr r (λ why. HasNoRoom old why)
    → OnOk r (length old < 100000) → OnErr r (new ≡ old) → IsPut old new i e r
is_put old new i e r a b c d = record { inserted = a; full = b; room = c; unchanged = d }

pub bounds_holds : (g : Scoring) (s : Solved) (e : Claim) → s.scoring ≡ g → empty_count s.board ≤ 30 → e ≡ bounds_entry s → (IsExact e → ⊥) → IsBookEntry g e
bounds_holds g s e by few is inexact = rw is (bounds_true g s by few (rw is at inexact))
