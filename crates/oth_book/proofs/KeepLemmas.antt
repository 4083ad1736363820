-- What a book said stands after an addition.
use Rattle.std.proofs.Common.{◌≡◌, ℕ, zero, suc, ◌<◌, inl, inr, ℤ, ◌≤ℤ◌, List, [], ◌∷◌, ◌++◌, length, get_or, insert, Contains, arith, sym, ap, ◌∙◌, refl, lit<}
use Rattle.std.proofs.lemmas.Int.{ints, int_max_is, int_min_is}
use Rattle.std.proofs.lemmas.List.Elements.{Contains-append_left, Contains-append_right, Contains-append_cases}
use Rattle.std.proofs.Math.ListN.{set}
use Rattle.std.specs.Int.{int_max, int_min}
use Rattle.std.specs.Prelude.{Result, Ok, Err}
use Rattle.oth_rules.specs.Score.{score_of}
use Rattle.oth_rules.specs.Value.{value}
use Rattle.oth_rules.specs.declared.scoring.Scoring.{Scoring}
use Rattle.oth_search.specs.declared.bounds.solved.Solved.{Solved}
use Rattle.oth_book.specs.declared.claim.Claim.{Claim}
use Rattle.oth_book.specs.declared.add.Added.{Added}
use Rattle.oth_book.specs.declared.add.AddError.{AddError}
use Rattle.oth_book.specs.Contents.{Contents}
use Rattle.oth_book.specs.True.{IsExact}
use Rattle.oth_book.specs.Book.{Has, HasExact, IsBookEntry, IsEntryOf, IsTrueBook}
use Rattle.oth_book.specs.Add.{HasWithin, Inserts, IsAdded, Keeps, Replaces, answer_entry, closer}
use Rattle.oth_search.specs.declared.bounds.answer.Answer.{Answer}
use Rattle.oth_rules.specs.Symmetry.{canonical}
use Rattle.oth_book.specs.declared.add.Added.TheVariants as added
use Rattle.oth_rules.specs.Position.{Position}
use Rattle.oth_book.proofs.BookLemmas.{TrueBook, entry_true}
use Rattle.oth_book.proofs.AddLemmas.{IsPut, book_of, inserts, replaces}

pub keeps_same : (b : Contents) → Keeps b b
keeps_same b = record {
  scoring = refl;
  boards = λ p l u has. record { closer_lower = l; closer_upper = u; has = has; above = omega (arith, ints); below = omega (arith, ints) };
}

in_more : (front back : List Claim) (c e : Claim) → Contains (front ++ back) e → Contains (front ++ c ∷ back) e
in_more front back c e h =
    elim (Contains-append_cases front back e h) [
      | inl a ↦ Contains-append_left front (c ∷ back) e a
      | inr b ↦ Contains-append_right front (c ∷ back) e (Contains-append_right (c ∷ []) back e b)
    ]

pub inserted_keeps : (old new : Contents) (c : Claim) → Inserts old new c → Keeps old new
inserted_keeps old new c put = record {
  scoring = put.scoring;
  boards = λ p l u has. record {
    closer_lower = l;
    closer_upper = u;
    has = record {
      entry = has.entry;
      there = rw put.after (in_more put.front put.back c has.entry (rw put.before at has.there));
      board = has.board;
      lower_is = has.lower_is;
      upper_is = has.upper_is;
    };
    above = omega (arith, ints);
    below = omega (arith, ints);
  };
}

only_at : (c e : Claim) (i : ℕ) → i < 1 → get_or (c ∷ []) i e ≡ e → e ≡ c
only_at c e zero h is = sym is
only_at c e (suc i) h is = absurd (omega arith)

-- the board of what was replaced stands there by what replaced it
replaced_board : (old new : Contents) (c d e : Claim) (p : Position) → Replaces old new c d → d.board ≡ c.board → c.lower ≤ℤ d.lower → d.upper ≤ℤ c.upper
    → Contains old.entries e → e.board ≡ p → HasWithin new.entries p e.lower e.upper
replaced_board old new c d e p put board low high there is =
    elim (Contains-append_cases put.front (c ∷ put.back) e (rw put.before at there)) [
      | inl a ↦ same (rw put.after (Contains-append_left put.front (d ∷ put.back) e a))
      | inr b ↦ elim (Contains-append_cases (c ∷ []) put.back e b) [
        | inl at ↦
            let at_c : e ≡ c = only_at c e at.0 at.1 at.2 in
            record {
              closer_lower = d.lower;
              closer_upper = d.upper;
              has = record {
                entry = d;
                there = rw put.after (Contains-append_right put.front (d ∷ put.back) d (Contains-append_left (d ∷ []) put.back d (0, lit< tt, refl)));
                board = board ∙ ap (λ x. x.board) (sym at_c) ∙ is;
                lower_is = refl;
                upper_is = refl;
              };
              above = rw at_c low;
              below = rw at_c high;
            }
        | inr b ↦ same (rw put.after (Contains-append_right put.front (d ∷ put.back) e (Contains-append_right (d ∷ []) put.back e b)))
      ]
    ]
  where
    same : Contains new.entries e → HasWithin new.entries p e.lower e.upper
    same there = record {
      closer_lower = e.lower;
      closer_upper = e.upper;
      has = record { entry = e; there = there; board = is; lower_is = refl; upper_is = refl };
      above = omega (arith, ints);
      below = omega (arith, ints);
    }

pub replaced_keeps : (old new : Contents) (c d : Claim) → Replaces old new c d → d.board ≡ c.board → c.lower ≤ℤ d.lower → d.upper ≤ℤ c.upper → Keeps old new
replaced_keeps old new c d put board low high = record {
  scoring = put.scoring;
  boards = λ p l u has. rw (has.lower_is, has.upper_is) at (replaced_board old new c d has.entry p put board low high has.there has.board);
}

-- the bounds of an exact entry lie within those of any true one of its board
exact_within : (g : Scoring) (c e : Claim) → IsBookEntry g c → IsBookEntry g e → IsExact e → e.board ≡ c.board → (c.lower ≤ℤ e.lower) × (e.upper ≤ℤ c.upper)
exact_within g c e hc he exact board =
    let same : value (score_of g) e.board ≡ value (score_of g) c.board = ap (value (score_of g)) board in
    let a = hc.holds.bounds.below in
    let b = hc.holds.bounds.above in
    let x = he.holds.bounds.below in
    let y = he.holds.bounds.above in
    (omega (arith, ints, a, y, same, exact), omega (arith, ints, b, x, same, exact))

closer_within : (c : Claim) (s : Solved) → (c.lower ≤ℤ (closer c s).lower) × ((closer c s).upper ≤ℤ c.upper)
closer_within c s = (max_above c.lower s.interval.lower, min_below c.upper s.interval.upper)
  where
    max_above : (a b : ℤ) → a ≤ℤ int_max a b
    max_above a b = let e = int_max_is a b in omega (arith, ints, e)

    min_below : (a b : ℤ) → int_min a b ≤ℤ a
    min_below a b = let e = int_min_is a b in omega (arith, ints, e)

-- ---- what the additions do

pub put_keeps : (g : Scoring) (old new : List Claim) (i : ℕ) (e : Claim) (r : Result Added AddError) → IsPut old new i e r → Keeps (book_of g old) (book_of g new)
put_keeps g old new i e (Ok done) put = rw put.inserted.1 (inserted_keeps (book_of g old) (book_of g (insert old i e)) e (inserts g old i e))
put_keeps g old new i e (Err why) put = rw put.unchanged (keeps_same (book_of g old))

pub exact_keeps : (g : Scoring) (old : List Claim) (i : ℕ) (kept e : Claim) → TrueBook g old → IsBookEntry g e → IsExact e → IsEntryOf old i e.board → kept ≡ get_or old i kept
    → Keeps (book_of g old) (book_of g (set old i e))
exact_keeps g old i kept e book entry exact at there =
    let board : e.board ≡ kept.board = sym (at.same kept) ∙ ap (λ c. c.board) (sym there) in
    let within = exact_within g kept e (entry_true g old i e.board kept book at there) entry exact board in
    replaced_keeps (book_of g old) (book_of g (set old i e)) kept e (replaces g old i kept e at.within there) board within.0 within.1

pub closer_keeps : (g : Scoring) (old : List Claim) (i : ℕ) (kept d : Claim) (s : Solved) → i < length old → kept ≡ get_or old i kept → d ≡ closer kept s
    → Keeps (book_of g old) (book_of g (set old i d))
closer_keeps g old i kept d s at there is =
    let within = closer_within kept s in
    replaced_keeps (book_of g old) (book_of g (set old i d)) kept d (replaces g old i kept d at there) (ap (λ c. c.board) is) (rw is within.0) (rw is within.1)

-- ---- for callers

pub keeps_trans : (a b c : Contents) → Keeps a b → Keeps b c → Keeps a c
keeps_trans a b c h k = record {
  scoring = k.scoring ∙ h.scoring;
  boards = λ p l u has.
      let first = h.boards p l u has in
      let second = k.boards p first.closer_lower first.closer_upper first.has in
      let la = first.above in
      let lb = second.above in
      let ua = first.below in
      let ub = second.below in
      record {
        closer_lower = second.closer_lower;
        closer_upper = second.closer_upper;
        has = second.has;
        above = omega (arith, ints, la, lb);
        below = omega (arith, ints, ua, ub);
      };
}

-- a board that stands in a true book with one number does so in each true book that keeps it
pub exact_stays : (old new : Contents) (p : Position) → Keeps old new → IsTrueBook new → HasExact old.entries p → HasExact new.entries p
exact_stays old new p kept book has =
    let closer = kept.boards p has.0 has.0 has.1 in
    let ordered = has_ordered new p closer.closer_lower closer.closer_upper book closer.has in
    let low = closer.above in
    let high = closer.below in
    let same : closer.closer_upper ≡ closer.closer_lower = omega (arith, ints, low, high, ordered) in
    (closer.closer_lower, rw same at closer.has)
  where
    has_ordered : (b : Contents) (p : Position) (l u : ℤ) → IsTrueBook b → Has b.entries p l u → l ≤ℤ u
    has_ordered b p l u book has =
        let at = has.there in
        let entry : IsBookEntry b.scoring has.entry = rw at.2 at (book.each at.0 has.entry at.1) in
        let ordered = entry.interval.ordered in
        rw (← has.lower_is, ← has.upper_is) ordered

put_there : (new : Contents) (a : Answer) (front back : List Claim) → new.entries ≡ front ++ answer_entry a ∷ back → HasExact new.entries (canonical a.board)
put_there new a front back is = (
  a.score,
  record {
    entry = answer_entry a;
    there = rw is (Contains-append_right front (answer_entry a ∷ back) (answer_entry a) (Contains-append_left (answer_entry a ∷ []) back (answer_entry a) (0, lit< tt, refl)));
    board = refl;
    lower_is = refl;
    upper_is = refl;
  },
)

-- an answer that was added stands there
pub added_there : (old new : Contents) (a : Answer) (done : Added) → IsAdded old new a done → HasExact new.entries (canonical a.board)
added_there old new a added.New h = put_there new a h.1.front h.1.back h.1.after
added_there old new a added.Present h = rw h.1 h.0
added_there old new a added.Sharper h = put_there new a h.3.front h.3.back h.3.after
