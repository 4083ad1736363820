-- The numbers by which faults and refusals are told.
use Rattle.std.specs.Prelude.{ℕ, Option, Some, None}
use Rattle.oth_book.specs.declared.fault.BookFault.{BookFault}
use Rattle.oth_book.specs.declared.fault.BookFault.TheVariants as faults
use Rattle.oth_book.specs.declared.wrong.Cause.TheVariants as cause
use Rattle.oth_book.specs.declared.wrong.Wrong.{Wrong}
use Rattle.oth_book.specs.declared.wrong.Wrong.TheVariants as wrong
use Rattle.oth_book.specs.declared.add.AddError.{AddError}
use Rattle.oth_book.specs.declared.add.AddError.TheVariants as refused

abbrev pub fault_number : BookFault → ℕ
fault_number faults.Header = 1
fault_number (faults.Line k) = 2
fault_number (faults.Order k) = 3
fault_number faults.Count = 4
fault_number faults.CutShort = 5
fault_number faults.Trailing = 6
fault_number faults.Memory = 7

-- the line, where the fault is told with one
abbrev pub fault_line : BookFault → Option ℕ
fault_line (faults.Line k) = Some k
fault_line (faults.Order k) = Some k
fault_line _ = None

abbrev pub wrong_number : Wrong → ℕ
wrong_number (wrong.Entry k cause.Bounds) = 1
wrong_number (wrong.Entry k cause.Best) = 2
wrong_number (wrong.Entry k cause.Empties) = 3
wrong_number wrong.Memory = 4

abbrev pub wrong_entry : Wrong → Option ℕ
wrong_entry (wrong.Entry k why) = Some k
wrong_entry wrong.Memory = None

abbrev pub refusal_number : AddError → ℕ
refusal_number refused.Memory = 1
refusal_number refused.Full = 2
refusal_number refused.Scoring = 3
refusal_number refused.OneNumber = 4
refusal_number refused.Empties = 5
