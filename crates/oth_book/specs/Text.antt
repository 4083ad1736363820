-- The text of a book: its header, a line for each entry, and the end line with their number.
--     signed z      a bound in three bytes
--     entry_line v c, end_line n      the lines
--     book_text v claims      the text of the version
--     IsClaim v c      what the format asks of an entry by itself
--     AreClaims v claims      the entries of a book: not too many, each in the format, the boards rising
use Rattle.std.specs.Prelude.{◌≡◌, ℕ, ◌<◌, ◌≤◌, ◌^◌, ℤ, pos, negsuc, ◌<ℤ◌, unsigned_abs, List}
use Rattle.std.specs.Prelude.{[], ◌∷◌, ◌++◌, length, codes, All, AllPairs, ⊤}
use Rattle.std.specs.List.{flat_map}
use Rattle.oth_rules.specs.Position.{IsBoard}
use Rattle.oth_rules.specs.Symmetry.{canonical}
use Rattle.oth_search.specs.Bounds.Interval.{IsInterval}
use Rattle.oth_book.specs.declared.version.Version.{Version}
use Rattle.oth_book.specs.declared.version.Version.TheVariants.{One, Two}
use Rattle.oth_book.specs.declared.claim.Claim.{Claim}
use Rattle.oth_book.specs.Order.{cells, IsBelow}
use Rattle.oth_book.specs.Numeral.{numeral}
use Rattle.oth_book.specs.Shape.{header}

abbrev pub sign_byte : ℤ → ℕ
sign_byte (pos n) = 43
sign_byte (negsuc n) = 45

-- the sign, which zero has too, and two digits
unfoldable pub signed : ℤ → List ℕ
signed z = sign_byte z ∷ numeral 10 2 (unsigned_abs z)

unfoldable pub bounds_text : Version → ℤ → ℤ → List ℕ
bounds_text One lower upper = signed lower
bounds_text (Two g) lower upper = signed lower ++ 32 ∷ signed upper

unfoldable pub entry_line : Version → Claim → List ℕ
entry_line v c = cells c.board ++ 32 ∷ bounds_text v c.lower c.upper ++ 32 ∷ numeral 16 16 c.best ++ 10 ∷ []

unfoldable pub end_line : ℕ → List ℕ
end_line count = codes "END " ++ numeral 10 6 count ++ 10 ∷ []

abbrev pub lines : Version → List Claim → List ℕ
lines v claims = flat_map (entry_line v) claims

abbrev pub book_text : Version → List Claim → List ℕ
book_text v claims = header v ++ (lines v claims ++ end_line (length claims))

-- version 1 says one number
abbrev pub Says : Version → ℤ → ℤ → Type 0
Says One lower upper = lower ≡ upper
Says (Two g) lower upper = ⊤

pub record AreBounds (v : Version) (lower upper : ℤ) : Type 0 where
  pub interval : IsInterval lower upper
  pub said : Says v lower upper

pub record IsClaim (v : Version) (c : Claim) : Type 0 where
  pub board : IsBoard c.board
  pub canonical : canonical c.board ≡ c.board
  pub bounds : AreBounds v c.lower c.upper
  pub best : c.best < 2 ^ 64
  pub undecided : c.lower <ℤ c.upper → c.best ≡ 0

pub record AreClaims (v : Version) (claims : List Claim) : Type 0 where
  pub count : length claims ≤ 100000
  pub each : All (IsClaim v) claims
  pub rising : AllPairs (λ c d. IsBelow c.board d.board) claims

-- the bytes are the text of a book with these entries
pub record IsBookText (v : Version) (claims : List Claim) (bytes : List ℕ) : Type 0 where
  pub entries : AreClaims v claims
  pub text : bytes ≡ book_text v claims
