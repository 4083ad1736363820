-- What an addition does to a book.
--     Keeps old new      all that the old book says stands in the new one, with bounds at least as close
--     IsAdded old new a done      an answer was added
--     IsRefused old a why      why an answer was refused
--     AreAdded old new s done      bounds were added
--     AreRefused old s why      why bounds were refused
use Rattle.std.specs.Prelude.{◌≡◌, ◌≢◌, ◌<◌, ◌≤◌, ◌⊎◌, ℤ, ◌≤ℤ◌, List, ◌++◌, ◌∷◌, length, Contains}
use Rattle.std.specs.Int.{int_max, int_min}
use Rattle.oth_rules.specs.Position.{Position, empty_count}
use Rattle.oth_rules.specs.Symmetry.{canonical}
use Rattle.oth_search.specs.declared.bounds.answer.Answer.{Answer}
use Rattle.oth_search.specs.declared.bounds.solved.Solved.{Solved}
use Rattle.oth_book.specs.declared.claim.Claim.{Claim}
use Rattle.oth_book.specs.declared.add.Added.{Added}
use Rattle.oth_book.specs.declared.add.Added.TheVariants as added
use Rattle.oth_book.specs.declared.add.AddError.{AddError}
use Rattle.oth_book.specs.declared.add.AddError.TheVariants as refused
use Rattle.oth_book.specs.Contents.{Contents}
use Rattle.oth_book.specs.True.{best_word}
use Rattle.oth_book.specs.Book.{Has, HasExact, HasBoard}

-- the board stands there with bounds at least as close
pub record HasWithin (entries : List Claim) (p : Position) (lower upper : ℤ) : Type 0 where
  pub closer_lower : ℤ
  pub closer_upper : ℤ
  pub has : Has entries p closer_lower closer_upper
  pub above : lower ≤ℤ closer_lower
  pub below : closer_upper ≤ℤ upper

pub record Keeps (old new : Contents) : Type 0 where
  pub scoring : new.scoring ≡ old.scoring
  pub boards : (p : Position) (lower upper : ℤ) → Has old.entries p lower upper → HasWithin new.entries p lower upper

-- the new book is the old one with this entry put in
pub record Inserts (old new : Contents) (c : Claim) : Type 0 where
  pub scoring : new.scoring ≡ old.scoring
  pub front : List Claim
  pub back : List Claim
  pub before : old.entries ≡ front ++ back
  pub after : new.entries ≡ front ++ c ∷ back

-- the new book is the old one with c replaced by d
pub record Replaces (old new : Contents) (c d : Claim) : Type 0 where
  pub scoring : new.scoring ≡ old.scoring
  pub front : List Claim
  pub back : List Claim
  pub before : old.entries ≡ front ++ c ∷ back
  pub after : new.entries ≡ front ++ d ∷ back

-- no room is left, or no memory for one entry more
abbrev pub HasNoRoom : List Claim → AddError → Type 0
HasNoRoom entries refused.Full = length entries ≡ 100000
HasNoRoom entries refused.Memory = length entries < 100000
HasNoRoom entries _ = ⊥

abbrev pub IsAbsent : Contents → Position → Type 0
IsAbsent book p = HasBoard book.entries (canonical p) → ⊥

-- ---- an answer

-- its canonical board, its score as both bounds, and all best moves of that board
abbrev pub answer_entry : Answer → Claim
answer_entry a = record { board = canonical a.board; lower = a.score; upper = a.score; best = best_word a.scoring (canonical a.board) }

abbrev pub IsAdded : Contents → Contents → Answer → Added → Type 0
IsAdded old new a added.New = IsAbsent old a.board × Inserts old new (answer_entry a)
IsAdded old new a added.Present = HasExact old.entries (canonical a.board) × (new ≡ old)
IsAdded old new a added.Sharper =
    (c : Claim) × (c.board ≡ canonical a.board) × (c.lower ≢ c.upper) × Replaces old new c (answer_entry a)

abbrev pub IsRefused : Contents → Answer → AddError → Type 0
IsRefused old a refused.Scoring = a.scoring ≢ old.scoring
IsRefused old a why = (a.scoring ≡ old.scoring) × IsAbsent old a.board × HasNoRoom old.entries why

-- ---- bounds

-- c with the closer ones of both bounds
abbrev pub closer : Claim → Solved → Claim
closer c s = record { board = c.board; lower = int_max c.lower s.interval.lower; upper = int_min c.upper s.interval.upper; best = 0 }

abbrev pub bounds_entry : Solved → Claim
bounds_entry s = record { board = canonical s.board; lower = s.interval.lower; upper = s.interval.upper; best = 0 }

abbrev pub SameBounds : Claim → Claim → Type 0
SameBounds c d = (c.lower ≡ d.lower) × (c.upper ≡ d.upper)

-- c is the entry of the board
pub record IsKept (book : Contents) (p : Position) (c : Claim) : Type 0 where
  pub there : Contains book.entries c
  pub board : c.board ≡ canonical p

abbrev pub AreAdded : Contents → Contents → Solved → Added → Type 0
AreAdded old new s added.New = IsAbsent old s.board × (s.interval.lower ≢ s.interval.upper) × Inserts old new (bounds_entry s)
AreAdded old new s added.Present = (c : Claim) × IsKept old s.board c × SameBounds (closer c s) c × (new ≡ old)
AreAdded old new s added.Sharper =
    (c : Claim)
    × IsKept old s.board c
    × (SameBounds (closer c s) c → ⊥)
    × ((closer c s).lower ≢ (closer c s).upper)
    × Replaces old new c (closer c s)

-- tested before the book is looked into
pub record IsAskable (old : Contents) (s : Solved) : Type 0 where
  pub scoring : s.scoring ≡ old.scoring
  pub empties : empty_count s.board ≤ 30

-- the bounds to be kept are one number, and new
abbrev pub IsOneNumber : Contents → Solved → Type 0
IsOneNumber old s =
    ((c : Claim) × IsKept old s.board c × (SameBounds (closer c s) c → ⊥) × ((closer c s).lower ≡ (closer c s).upper))
    ⊎ (IsAbsent old s.board × (s.interval.lower ≡ s.interval.upper))

abbrev pub AreRefused : Contents → Solved → AddError → Type 0
AreRefused old s refused.Scoring = s.scoring ≢ old.scoring
AreRefused old s refused.Empties = (s.scoring ≡ old.scoring) × (30 < empty_count s.board)
AreRefused old s refused.OneNumber = IsAskable old s × IsOneNumber old s
AreRefused old s why = IsAskable old s × IsAbsent old s.board × (s.interval.lower ≢ s.interval.upper) × HasNoRoom old.entries why
