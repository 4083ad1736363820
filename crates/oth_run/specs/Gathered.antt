-- Bytes that are gathered before they are written. A sink held the bytes `before` at first and holds `sink`, or `sink'` after a call.
--     IsGathered before sink waiting text      of the text a front was written, and the rest waits
--     Gathers      a call adds the text
--     WritesOut, StopsInWaiting      a call writes what waits, and what is left where the sink fails
--     StopsInText      what is left where it fails while a text is added
use Rattle.std.specs.Prelude.{◌≡◌, ℕ, List, ◌++◌, Option}
use Rattle.std.specs.Io.KnownBytes.{Appends}
use Rattle.oth_device.specs.Device.{AppendsBeginning}

abbrev pub IsGathered : Option (List ℕ) → Option (List ℕ) → List ℕ → List ℕ → Type 0
IsGathered before sink waiting text = (front : List ℕ) × Appends before sink front × (text ≡ front ++ waiting)

abbrev pub Gathers : Option (List ℕ) → Option (List ℕ) → List ℕ → List ℕ → List ℕ → Type 0
Gathers sink sink' waiting waiting' text = (before : Option (List ℕ)) (done : List ℕ)
    → IsGathered before sink waiting done → IsGathered before sink' waiting' (done ++ text)

-- as `Gathers`, of a call that adds no text
abbrev pub KeepsGathered : Option (List ℕ) → Option (List ℕ) → List ℕ → List ℕ → Type 0
KeepsGathered sink sink' waiting waiting' = (before : Option (List ℕ)) (done : List ℕ)
    → IsGathered before sink waiting done → IsGathered before sink' waiting' done

abbrev pub WritesOut : Option (List ℕ) → Option (List ℕ) → List ℕ → Type 0
WritesOut sink sink' waiting = (before : Option (List ℕ)) (done : List ℕ) → IsGathered before sink waiting done → Appends before sink' done

abbrev pub StopsInWaiting : Option (List ℕ) → Option (List ℕ) → List ℕ → Type 0
StopsInWaiting sink sink' waiting =
    (before : Option (List ℕ)) (done : List ℕ) → IsGathered before sink waiting done → AppendsBeginning before sink' done

abbrev pub StopsInText : Option (List ℕ) → Option (List ℕ) → List ℕ → List ℕ → Type 0
StopsInText sink sink' waiting text = (before : Option (List ℕ)) (done : List ℕ)
    → IsGathered before sink waiting done → AppendsBeginning before sink' (done ++ text)
