-- A history of the table. The words of histories are oth_history's, of these events.
--     content c h         the entry that the cell c holds: what its last publish kept
--     owner c h           the seat that has claimed the cell and not published it yet
--     claims c h          how often the cell c was claimed
--     publishes c h       how often the cell c was published
--     author e, makes e   the seat that did the event, and the seat that it makes
--     Fits terms h e      the event e fits the history h: what is said of the cell is so, and entries are true
--     IsLegal terms h     the history is legal: each event is by a seat, makes none that there is, and fits those before it
--     Ends terms s earlier later e  the seat s had seen `earlier`, and now has seen `later`, a legal history that ends with e, its one
--                         further event
--     GoesAway            the history ends with an answer that did nothing, since another seat had the cell
use Rattle.std.specs.Prelude.{◌≡◌, ℕ, ◌+◌, ◌<◌, ◌==◌, if◌then◌else◌, List, [], ◌∷◌, Option, Some, None}
use Rattle.oth_history.specs.History.{Name, IsLegalBy, EndsBy}
use Rattle.oth_rules.specs.declared.scoring.Scoring.{Scoring}
use Rattle.oth_search.specs.Bounds.Entry.{Bounded, IsTrueEntry, joined}
use Rattle.oth_table.specs.declared.history.Terms.{Terms}
use Rattle.oth_table.specs.declared.history.Why.{Why}
use Rattle.oth_table.specs.declared.history.Why.TheVariants.{Worn}
use Rattle.oth_table.specs.declared.history.Event.{Event}
use Rattle.oth_table.specs.declared.history.Event.TheVariants.{Claim, Publish, Look, Away, Made}

-- the entry is true, under this scoring
pub record IsTrueBy (g : Scoring) (x : Bounded) : Type 0 where
  pub truth : IsTrueEntry x
  pub scoring : x.scoring ≡ g

abbrev pub author : Event → Name
author (Claim s c) = s
author (Publish s c given kept) = s
author (Look s c x) = s
author (Away s c why) = s
author (Made s t) = s

-- the seat that the event makes
abbrev pub makes : Event → Option Name
makes (Made s t) = Some t
makes e = None

-- what the last publish of the cell kept
abbrev pub content : ℕ → List Event → Option Bounded
content c [] = None
content c (Publish s d given kept ∷ h) = if d == c then Some kept else content c h
content c (e ∷ h) = content c h

-- the seat that has claimed the cell and not published it yet
abbrev pub owner : ℕ → List Event → Option Name
owner c [] = None
owner c (Claim s d ∷ h) = if d == c then Some s else owner c h
owner c (Publish s d given kept ∷ h) = if d == c then None else owner c h
owner c (e ∷ h) = owner c h

abbrev pub claims : ℕ → List Event → ℕ
claims c [] = 0
claims c (Claim s d ∷ h) = if d == c then claims c h + 1 else claims c h
claims c (e ∷ h) = claims c h

abbrev pub publishes : ℕ → List Event → ℕ
publishes c [] = 0
publishes c (Publish s d given kept ∷ h) = if d == c then publishes c h + 1 else publishes c h
publishes c (e ∷ h) = publishes c h

-- the event fits what came before it
abbrev pub Fits : Terms → List Event → Event → Type 0
Fits terms h (Claim s c) = (owner c h ≡ None) × (publishes c h < terms.wear)
Fits terms h (Publish s c given kept) =
    (owner c h ≡ Some s) × (kept ≡ joined (content c h) given) × IsTrueBy terms.scoring given × IsTrueBy terms.scoring kept
Fits terms h (Look s c x) = x ≡ content c h
Fits terms h (Away s c why) = why ≡ Worn → publishes c h ≡ terms.wear
Fits terms h (Made s t) = Unit {0}

abbrev pub IsLegal : Terms → List Event → Type 0
IsLegal terms = IsLegalBy author makes (Fits terms)

abbrev pub Ends : Terms → Name → List Event → List Event → Event → Type 0
Ends terms = EndsBy author makes (Fits terms)

-- ends with a call that did nothing, where another seat has the cell or has taken it since
abbrev pub GoesAway : Terms → Name → ℕ → Why → List Event → List Event → Type 0
GoesAway terms s c why earlier later = Ends terms s earlier later (Away s c why) × (publishes c earlier < claims c later)
