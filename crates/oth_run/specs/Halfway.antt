-- A run halfway. A sink held the bytes `before` when the run began and holds `sink`, or `sink'` after a call.
--     IsBehind      `kept` stands for the line that has begun, and `found` says whether one of the lines before it has a fault
--     IsUpTo, IsAt      the reports of the lines that ended are gathered, and the engine is behind them
--     Takes, StopsWithin      what a call makes of further bytes of the input, and what is left where the sink fails
--     Answers, Ends, StopsInside      what a call makes of the line that has begun, of which `told number line` is written
--     WritesEnded      a run over the lines that a byte 10 ends, by how it ended
--     RunsOn      a run from wherever the engine is, over further bytes of the input
use Rattle.std.specs.Prelude.{◌≡◌, ℕ, Bool, List, [], ◌++◌, Option, Result, Ok, Err}
use Rattle.std.specs.Io.KnownBytes.{Appends}
use Rattle.oth_device.specs.Device.{AppendsBeginning}
use Rattle.oth_words.specs.declared.settings.Settings.{Settings}
use Rattle.oth_run.specs.declared.engine.Engine.{Engine}
use Rattle.oth_run.specs.declared.fault.RunFault.{RunFault}
use Rattle.oth_run.specs.declared.fault.RunFault.TheVariants.{Read, Write, Workers, Cells}
use Rattle.oth_run.specs.declared.line.Line.{Line}
use Rattle.oth_run.specs.Faulty.{has_faulty}
use Rattle.oth_run.specs.Gathered.{IsGathered}
use Rattle.oth_run.specs.Line.{Holds}
use Rattle.oth_run.specs.Reply.{reply}
use Rattle.oth_run.specs.Report.{cut, ended_report, number_behind}

pub record IsBehind (settings : Settings) (kept : Line) (found : Bool) (lines : List (List ℕ)) (line : List ℕ) : Type 0 where
  pub held : Holds settings.command kept (number_behind 1 lines) line
  pub faulty : found ≡ has_faulty settings.command lines

pub record IsUpTo (reply : ℕ → List ℕ → List ℕ) (behind : List (List ℕ) → List ℕ → Type 0)
    (before sink : Option (List ℕ)) (waiting input : List ℕ) : Type 0 where
  pub lines : behind (cut input).lines (cut input).rest
  pub gathered : IsGathered before sink waiting (ended_report reply input)

abbrev pub IsAt : Settings → Engine → Option (List ℕ) → Option (List ℕ) → List ℕ → Type 0
IsAt settings engine before sink input =
    IsUpTo (reply settings) (IsBehind settings engine.line engine.is_faulty) before sink engine.waiting.bytes.items input

abbrev pub Takes : Settings → Engine → Engine → Option (List ℕ) → Option (List ℕ) → List ℕ → Type 0
Takes settings old new sink sink' bytes = (before : Option (List ℕ)) (input : List ℕ)
    → IsAt settings old before sink input → IsAt settings new before sink' (input ++ bytes)

abbrev pub StopsWithin : Settings → Engine → Option (List ℕ) → Option (List ℕ) → List ℕ → Type 0
StopsWithin settings old sink sink' bytes = (before : Option (List ℕ)) (input : List ℕ)
    → IsAt settings old before sink input → AppendsBeginning before sink' (ended_report (reply settings) (input ++ bytes))

module _ (told : ℕ → List ℕ → List ℕ) where
  abbrev pub Answers : Settings → Engine → Engine → Option (List ℕ) → Option (List ℕ) → Type 0
  Answers settings old new sink sink' = (before : Option (List ℕ)) (done line : List ℕ) (number : ℕ)
      → Holds settings.command old.line number line
      → IsGathered before sink old.waiting.bytes.items done → IsGathered before sink' new.waiting.bytes.items (done ++ told number line)

  abbrev pub Ends : Settings → Engine → Option (List ℕ) → Option (List ℕ) → Type 0
  Ends settings old sink sink' = (before : Option (List ℕ)) (done line : List ℕ) (number : ℕ) → Holds settings.command old.line number line
      → IsGathered before sink old.waiting.bytes.items done → Appends before sink' (done ++ told number line)

  abbrev pub StopsInside : Settings → Engine → Option (List ℕ) → Option (List ℕ) → Type 0
  StopsInside settings old sink sink' = (before : Option (List ℕ)) (done line : List ℕ) (number : ℕ)
      → Holds settings.command old.line number line
      → IsGathered before sink old.waiting.bytes.items done → AppendsBeginning before sink' (done ++ told number line)

abbrev pub WritesEnded : Settings → Line → Bool → Option (List ℕ) → Option (List ℕ) → Result (Unit {0}) RunFault → List ℕ → Type 0
WritesEnded settings kept found before sink (Ok done) input = IsUpTo (reply settings) (IsBehind settings kept found) before sink [] input
WritesEnded settings kept found before sink (Err Read) input = Appends before sink (ended_report (reply settings) input)
WritesEnded settings kept found before sink (Err Write) input = AppendsBeginning before sink (ended_report (reply settings) input)
WritesEnded settings kept found before sink (Err Workers) input = ⊥
WritesEnded settings kept found before sink (Err Cells) input = ⊥

abbrev pub RunsOn : Settings → Engine → Line → Bool → Option (List ℕ) → Option (List ℕ) → Result (Unit {0}) RunFault → List ℕ → Type 0
RunsOn settings old kept found sink sink' result bytes = (before : Option (List ℕ)) (input : List ℕ)
    → IsAt settings old before sink input → WritesEnded settings kept found before sink' result (input ++ bytes)
