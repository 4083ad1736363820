-- Bytes that are gathered, and beginnings of a text.
use Rattle.std.proofs.Common.{ℕ, List, [], ◌++◌, Option, Result, Ok, Err, OnErr, OnOk, ◌≡◌, refl, subst, sym, ap, ◌∙◌, append_assoc, append-nil}
use Rattle.std.specs.Io.KnownBytes.{Appends}
use Rattle.std.proofs.KnownBytes.{Appends-trans}
use Rattle.oth_device.specs.Device.{AppendsBeginning, IsBeginning}
use Rattle.oth_run.specs.Gathered.{Gathers, IsGathered, StopsInText, StopsInWaiting}

pub on_err_always : {T E P : Type 0} (r : Result T E) → P → OnErr r P
on_err_always (Ok x) p = tt
on_err_always (Err e) p = p

pub on_ok_always : {T E P : Type 0} (r : Result T E) → P → OnOk r P
on_ok_always (Ok x) p = p
on_ok_always (Err e) p = tt

-- all is written, since nothing waits
pub gathered_all : (before now : Option (List ℕ)) (done : List ℕ) → IsGathered before now [] done → Appends before now done
gathered_all before now done gathered = subst (Appends before now) (sym (gathered.2 ∙ append-nil gathered.0)) gathered.1

-- a part of what waits is written
pub gathered_part : (before now after : Option (List ℕ)) (waiting done : List ℕ) → IsGathered before now waiting done → AppendsBeginning now after waiting
    → AppendsBeginning before after done
gathered_part before now after waiting done gathered part = (
  gathered.0 ++ part.0,
  Appends-trans before now after gathered.0 part.0 gathered.1 part.1,
  (part.2.0, gathered.2 ∙ ap (λ l. gathered.0 ++ l) part.2.1 ∙ sym (append_assoc gathered.0 part.0 part.2.0)),
)

-- a beginning of a text begins what the text begins
pub beginning_within : (before now : Option (List ℕ)) (text all : List ℕ) → AppendsBeginning before now text → IsBeginning text all → AppendsBeginning before now all
beginning_within before now text all part within =
    (part.0, part.1, (part.2.0 ++ within.0, within.1 ∙ ap (λ l. l ++ within.0) part.2.1 ∙ append_assoc part.0 part.2.0 within.0))

-- the text by another name
pub gathers_as : (before now : Option (List ℕ)) (waiting rest text told : List ℕ) → text ≡ told → Gathers before now waiting rest text
    → Gathers before now waiting rest told
gathers_as before now waiting rest text told is = subst (λ t. Gathers before now waiting rest t) is

pub stops_as : (before now : Option (List ℕ)) (waiting text told : List ℕ) → text ≡ told → StopsInText before now waiting text → StopsInText before now waiting told
stops_as before now waiting text told is = subst (λ t. StopsInText before now waiting t) is

-- what waits begins what waits and a text
pub stops_in : (before now : Option (List ℕ)) (waiting told : List ℕ) → StopsInWaiting before now waiting → StopsInText before now waiting told
stops_in before now waiting told stops = λ first done gathered. beginning_within first now done (done ++ told) (stops first done gathered) (told, refl)
