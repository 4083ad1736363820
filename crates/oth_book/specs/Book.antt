-- A true book: canonical boards of at most 30 empty squares, rising, each with true bounds, and all best moves where they are one number.
--     Has entries p lower upper      the board p stands there with these bounds
--     HasExact entries p, HasBoard entries p      it stands there with bounds that are one number; with any
use Rattle.std.specs.Prelude.{◌≡◌, ℕ, ◌<◌, ◌≤◌, ℤ, ◌<ℤ◌, List, slice_index_or, length, All, AllPairs, Contains}
use Rattle.std.specs.List.{AllWithin}
use Rattle.oth_rules.specs.Position.{Position, IsBoard}
use Rattle.oth_rules.specs.Symmetry.{canonical}
use Rattle.oth_rules.specs.declared.scoring.Scoring.{Scoring}
use Rattle.oth_search.specs.Bounds.Interval.{IsInterval}
use Rattle.oth_book.specs.declared.claim.Claim.{Claim}
use Rattle.oth_book.specs.Order.{IsBelow}
use Rattle.oth_book.specs.True.{IsTrueClaim}
use Rattle.oth_book.specs.Contents.{Contents}

pub record IsBookEntry (g : Scoring) (c : Claim) : Type 0 where
  pub holds : IsTrueClaim g c
  pub board : IsBoard c.board
  pub canonical : canonical c.board ≡ c.board
  pub interval : IsInterval c.lower c.upper
  pub undecided : c.lower <ℤ c.upper → c.best ≡ 0

pub record IsTrueBook (book : Contents) : Type 0 where
  pub count : length book.entries ≤ 100000
  pub each : All (IsBookEntry book.scoring) book.entries
  pub rising : AllPairs (λ c d. IsBelow c.board d.board) book.entries

pub record Has (entries : List Claim) (p : Position) (lower upper : ℤ) : Type 0 where
  pub entry : Claim
  pub there : Contains entries entry
  pub board : entry.board ≡ p
  pub lower_is : entry.lower ≡ lower
  pub upper_is : entry.upper ≡ upper

abbrev pub HasExact : List Claim → Position → Type 0
HasExact entries p = (z : ℤ) × Has entries p z z

abbrev pub HasBoard : List Claim → Position → Type 0
HasBoard entries p = (lower upper : ℤ) × Has entries p lower upper

-- entry i is that of the board
pub record IsEntryOf (entries : List Claim) (i : ℕ) (board : Position) : Type 0 where
  pub within : i < length entries
  pub same : (c : Claim) → (slice_index_or entries i c).board ≡ board

-- the board would go to place i
pub record IsGap (entries : List Claim) (i : ℕ) (board : Position) : Type 0 where
  pub within : i ≤ length entries
  pub below : AllWithin (λ c. IsBelow c.board board) entries 0 i
  pub above : AllWithin (λ c. IsBelow board c.board) entries i (length entries)
