-- A run over an input.
--     Writes reply result input written      what a run wrote of what it read, by how it ended
--     ending result      how a run ended that tells whether a line has a fault
--     Judges command result input      it tells whether one of all lines has
--     FailsBy result reader writer      a device has failed exactly where the run says so
--     AreLawful settings      neither number of the settings is refused
--     RefusesBy workers cells result      the workers are refused, else the cells, exactly where they are no lawful number
use Rattle.std.specs.Prelude.{◌≡◌, ⊤, ℕ, Bool, true, false, List, [], Result, Ok, Err}
use Rattle.oth_device.specs.Device.{IsBeginning}
use Rattle.oth_pieces.specs.Hands.{IsCrew}
use Rattle.oth_table.specs.Sizes.{IsSizeOrNone}
use Rattle.oth_words.specs.declared.settings.Command.{Command}
use Rattle.oth_words.specs.declared.settings.Settings.{Settings}
use Rattle.oth_run.specs.declared.fault.RunFault.{RunFault}
use Rattle.oth_run.specs.declared.fault.RunFault.TheVariants.{Read, Write, Workers, Cells}
use Rattle.oth_run.specs.Faulty.{has_faulty}
use Rattle.oth_run.specs.Report.{ended_report, lines_of, report}

abbrev pub Writes : (ℕ → List ℕ → List ℕ) → Result (Unit {0}) RunFault → List ℕ → List ℕ → Type 0
Writes reply (Ok done) input written = written ≡ report reply input
Writes reply (Err Read) input written = written ≡ ended_report reply input
Writes reply (Err Write) input written = IsBeginning written (report reply input)
Writes reply (Err Workers) input written = (input ≡ []) × (written ≡ [])
Writes reply (Err Cells) input written = (input ≡ []) × (written ≡ [])

abbrev pub ending : Result Bool RunFault → Result (Unit {0}) RunFault
ending (Ok found) = Ok tt
ending (Err fault) = Err fault

abbrev pub Judges : Command → Result Bool RunFault → List ℕ → Type 0
Judges command (Ok found) input = found ≡ has_faulty command (lines_of input)
Judges command (Err fault) input = ⊤

abbrev pub FailsBy : Result (Unit {0}) RunFault → Bool → Bool → Type 0
FailsBy (Ok done) reader writer = (reader ≡ false) × (writer ≡ false)
FailsBy (Err Read) reader writer = (reader ≡ true) × (writer ≡ false)
FailsBy (Err Write) reader writer = (reader ≡ false) × (writer ≡ true)
FailsBy (Err Workers) reader writer = (reader ≡ false) × (writer ≡ false)
FailsBy (Err Cells) reader writer = (reader ≡ false) × (writer ≡ false)

-- ---- the settings

-- 1 to 16 workers, and the size of a table or 0 for none
pub record AreLawful (settings : Settings) : Type 0 where
  pub workers : IsCrew settings.workers
  pub cells : IsSizeOrNone settings.cells

abbrev pub RefusesBy : {T : Type 0} → ℕ → ℕ → Result T RunFault → Type 0
RefusesBy workers cells (Ok done) = IsCrew workers × IsSizeOrNone cells
RefusesBy workers cells (Err Read) = IsCrew workers × IsSizeOrNone cells
RefusesBy workers cells (Err Write) = IsCrew workers × IsSizeOrNone cells
RefusesBy workers cells (Err Workers) = ¬ IsCrew workers
RefusesBy workers cells (Err Cells) = IsCrew workers × (¬ IsSizeOrNone cells)

-- a fact, where the settings are refused
abbrev pub OnRefusal : Result (Unit {0}) RunFault → Type 0 → Type 0
OnRefusal (Ok done) P = ⊤
OnRefusal (Err Read) P = ⊤
OnRefusal (Err Write) P = ⊤
OnRefusal (Err Workers) P = P
OnRefusal (Err Cells) P = P

-- the number that `run error` is printed with
abbrev pub number_of : RunFault → ℕ
number_of Read = 1
number_of Write = 2
number_of Workers = 3
number_of Cells = 4

-- the status of the program after it
abbrev pub status_of : RunFault → ℕ
status_of Read = 1
status_of Write = 1
status_of Workers = 2
status_of Cells = 2
