-- When an entry is true, and which of a book's entries is the first that isn't.
--     IsTrueClaim g c      the entry is true under the scoring g, and of at most 30 empty squares
--     IsCause g c why      the first cause for which it isn't
--     IsWrong said wrong      the first entry that isn't true, counted from 1, with its cause; or out of memory, where there are entries
use Rattle.std.specs.Prelude.{◌≡◌, ◌≢◌, ℕ, ◌+◌, ◌<◌, ◌≤◌, [], take, slice_get, Some, All}
use Rattle.oth_rules.specs.Square.{word_of}
use Rattle.oth_rules.specs.Position.{Position, empty_count}
use Rattle.oth_rules.specs.Score.{score_of}
use Rattle.oth_rules.specs.Value.{value, is_best}
use Rattle.oth_rules.specs.declared.scoring.Scoring.{Scoring}
use Rattle.oth_search.specs.Bounds.Interval.{Encloses}
use Rattle.oth_book.specs.declared.claim.Claim.{Claim}
use Rattle.oth_book.specs.declared.wrong.Cause.{Cause}
use Rattle.oth_book.specs.declared.wrong.Cause.TheVariants as cause
use Rattle.oth_book.specs.declared.wrong.Wrong.{Wrong}
use Rattle.oth_book.specs.declared.wrong.Wrong.TheVariants as wrong
use Rattle.oth_book.specs.Contents.{Contents}

-- the set of all best moves
abbrev pub best_word : Scoring → Position → ℕ
best_word g p = word_of (is_best (score_of g) p)

-- the bounds enclose the value
abbrev pub HoldsValue : Scoring → Claim → Type 0
HoldsValue g c = Encloses c.lower c.upper (value (score_of g) c.board)

-- the bounds are one number
abbrev pub IsExact : Claim → Type 0
IsExact c = c.lower ≡ c.upper

pub record IsTrueClaim (g : Scoring) (c : Claim) : Type 0 where
  pub empties : empty_count c.board ≤ 30
  pub bounds : HoldsValue g c
  pub best : IsExact c → c.best ≡ best_word g c.board

abbrev pub IsCause : Scoring → Claim → Cause → Type 0
IsCause g c cause.Empties = 30 < empty_count c.board
IsCause g c cause.Bounds = (empty_count c.board ≤ 30) × (HoldsValue g c → ⊥)
IsCause g c cause.Best = (empty_count c.board ≤ 30) × HoldsValue g c × IsExact c × (c.best ≢ best_word g c.board)

-- entry i, counted from 0, is the first that isn't true
pub record IsFirstUntrue (said : Contents) (i : ℕ) (why : Cause) : Type 0 where
  pub entry : (c : Claim) × (slice_get said.entries i ≡ Some c) × IsCause said.scoring c why
  pub before : All (IsTrueClaim said.scoring) (take i said.entries)

abbrev pub IsWrong : Contents → Wrong → Type 0
IsWrong said (wrong.Entry k why) = (i : ℕ) × (k ≡ i + 1) × IsFirstUntrue said i why
IsWrong said wrong.Memory = said.entries ≢ []
