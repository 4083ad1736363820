-- Statuses at which all was done, and others.
use Rattle.std.proofs.Common.{◌≡◌, ◌≤◌, ℕ, inl, inr, arith}
use Rattle.oth_run.specs.Run.{status_of}
use Rattle.oth_run.specs.declared.fault.RunFault.{RunFault}
use Rattle.oth_run.specs.declared.fault.RunFault.TheVariants.{Read, Write, Workers, Cells}
use Rattle.othsolve.specs.Program.{IsDone}

-- 1 to 3 are others
pub not_done : (status : ℕ) → 1 ≤ status → status ≤ 3 → IsDone status → ⊥
not_done status low high (inl zero) = omega (arith, low, high, zero)
not_done status low high (inr four) = omega (arith, low, high, four)

-- the status of a fault is another
pub fault_not_done : (status : ℕ) (fault : RunFault) → status ≡ status_of fault → IsDone status → ⊥
fault_not_done status Read is done = not_done status (omega (arith, is)) (omega (arith, is)) done
fault_not_done status Write is done = not_done status (omega (arith, is)) (omega (arith, is)) done
fault_not_done status Workers is done = not_done status (omega (arith, is)) (omega (arith, is)) done
fault_not_done status Cells is done = not_done status (omega (arith, is)) (omega (arith, is)) done
