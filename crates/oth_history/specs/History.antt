-- Histories of what threads share: a list of events, the newest first. Each event is by a seat, its author, and makes a further
-- seat or none.
-- Of what kind the events are is left open: a table's and a floor's histories are told by the same words.
--     Name                      a seat is named by a number; the first seat's is 0
--     Begins earlier later      the later history begins with the earlier one
--     HasNone s h               no event is by the seat s
--     Since s earlier later     the later history begins with the earlier one, and has no further event of the seat s
--     events_of s h             the events by the seat s
--     IsSeat h s                s is the first seat, or was made
--     MayCome h e               the event e is by a seat, and makes none that there is
--     WasMadeBy h s t           the seat s made the seat t
--     IsLegalBy Fits h          each event may come after those before it, and fits them
--     EndsBy Fits s earlier later e      later is legal and begins with earlier, and e is its last event and its one further event of s
use Rattle.std.specs.Prelude.{◌≡◌, ◌≢◌, ℕ, ◌==◌, ◌⊎◌, List, [], ◌∷◌, ◌++◌, filter, Option, Some, None}

abbrev pub Name : Type 0
Name = ℕ

abbrev pub Begins : {E : Type 0} → List E → List E → Type 0
Begins {E} earlier later = (between : List E) × (later ≡ between ++ earlier)

module _ {E : Type 0} (author : E → Name) where
  abbrev pub HasNone : Name → List E → Type 0
  HasNone s [] = Unit {0}
  HasNone s (e ∷ h) = (author e ≢ s) × HasNone s h

  abbrev pub Since : Name → List E → List E → Type 0
  Since s earlier later = (between : List E) × (later ≡ between ++ earlier) × HasNone s between

  abbrev pub events_of : Name → List E → List E
  events_of s h = filter (λ e. author e == s) h

-- `makes` tells the seat that an event makes
module _ {E : Type 0} (makes : E → Option Name) where
  abbrev pub IsSeat : List E → Name → Type 0
  IsSeat [] s = s ≡ 0
  IsSeat (e ∷ h) s = (makes e ≡ Some s) ⊎ IsSeat h s

  -- no seat is made twice
  abbrev pub IsUnmade : List E → Option Name → Type 0
  IsUnmade h None = Unit {0}
  IsUnmade h (Some s) = ¬ IsSeat h s

module _ {E : Type 0} (author : E → Name) (makes : E → Option Name) where
  abbrev pub MayCome : List E → E → Type 0
  MayCome h e = IsSeat makes h (author e) × IsUnmade makes h (makes e)

  abbrev pub WasMadeBy : List E → Name → Name → Type 0
  WasMadeBy [] s t = ⊥
  WasMadeBy (e ∷ h) s t = ((author e ≡ s) × (makes e ≡ Some t)) ⊎ WasMadeBy h s t

  module _ (Fits : List E → E → Type 0) where
    abbrev pub IsLegalBy : List E → Type 0
    IsLegalBy [] = Unit {0}
    IsLegalBy (e ∷ h) = MayCome h e × Fits h e × IsLegalBy h

    -- the seat s had seen `earlier`. Now it has seen a legal history that begins with it and ends with e, which is the one further
    -- event of s
    pub record EndsBy (s : Name) (earlier later : List E) (e : E) : Type 0 where
      pub before : List E
      pub since : Since author s earlier before
      pub last : later ≡ e ∷ before
      pub legal : IsLegalBy later
