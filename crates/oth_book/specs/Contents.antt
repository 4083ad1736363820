-- What a book says: its scoring and its entries.
use Rattle.std.specs.Prelude.{◌≡◌, ℕ, List}
use Rattle.oth_rules.specs.declared.scoring.Scoring.{Scoring}
use Rattle.oth_rules.specs.declared.scoring.Scoring.TheVariants.{Winner}
use Rattle.oth_book.specs.declared.version.Version.{Version}
use Rattle.oth_book.specs.declared.version.Version.TheVariants.{One, Two}
use Rattle.oth_book.specs.declared.claim.Claim.{Claim}
use Rattle.oth_book.specs.Text.{IsBookText, book_text}

pub record Contents : Type 0 where
  pub scoring : Scoring
  pub entries : List Claim

-- version 1 is by Winner, version 2 as its header says
abbrev pub scoring_of : Version → Scoring
scoring_of One = Winner
scoring_of (Two g) = g

-- the bytes are a book's text, of either version, that says this
pub record IsText (said : Contents) (bytes : List ℕ) : Type 0 where
  pub version : Version
  pub scoring : said.scoring ≡ scoring_of version
  pub text : IsBookText version said.entries bytes

-- the text that is written: version 2
abbrev pub written : Contents → List ℕ
written book = book_text (Two book.scoring) book.entries
