-- What the fault of a settle tells: how the settle ended, and the fault with which the run then ends.
use Rattle.std.specs.Prelude.{◌≡◌, ℕ, Option, Some, None}
use Rattle.dss_commands.specs.dss_circuit.Circuit.{CircuitView}
use Rattle.fd_daily.specs.fd_cert.declared.ball.Certified.{Certified}
use Rattle.fd_daily.specs.fd_cert.declared.fault.CertFault.TheVariants as cert
use Rattle.fd_daily.specs.fd_enclosure.Sound.{loose, uncertain}
use Rattle.fd_daily.specs.fd_pattern.Views.{NetworkView}
use Rattle.fd_daily.specs.fd_inject.declared.fault.SolveFault.{SolveFault}
use Rattle.fd_daily.specs.fd_inject.declared.fault.SolveFault.TheVariants as solving
use Rattle.fd_daily.specs.fd_inject.declared.limits.Limits.{Limits}
use Rattle.fd_daily.specs.fd_queue.Machine.{Machine}
use Rattle.fd_pages.specs.fd_report.declared.faults.Fault.{Fault}
use Rattle.fd_pages.specs.fd_outcome.Settles.{SettleEnd, settled, failed}
use Rattle.fd_daily.specs.fd_settle.declared.compute.ComputeFault.{ComputeFault}
use Rattle.fd_daily.specs.fd_settle.declared.compute.ComputeFault.TheVariants as compute
use Rattle.fd_daily.specs.fd_settle.declared.fault.SettleFault.{SettleFault}
use Rattle.fd_daily.specs.fd_settle.declared.fault.SettleFault.TheVariants as fault
use Rattle.fd_daily.specs.fd_settle.Compute.{IsPlaced, IsUncertified, procedure, uncertified}
use Rattle.fd_daily.specs.fd_settle.Computed.{Ending, ended, range, stopped}
use Rattle.fd_daily.specs.fd_settle.Contract.{limits_of}
use Rattle.fd_daily.specs.fd_settle.Settle.{Limited, Undecidable}
use Rattle.fd_daily.specs.Underway.{plant_at}
use Rattle.fd_pages.specs.Hours.{end_with}
use Rattle.fd_solving.specs.Solving.{IsEndBy}
use Rattle.fd_solving.specs.declared.faults.Failure.{Failure}

-- ---- how a settle ended; want of memory tells none

abbrev pub ending_by_solver : ComputeFault → Option Ending
ending_by_solver (compute.Solve (solving.NoInverse column stop)) =
    Some (stopped (procedure (solving.NoInverse column stop)))
ending_by_solver (compute.Solve (solving.OutOfRange place step)) =
    Some (stopped (procedure (solving.OutOfRange place step)))
ending_by_solver (compute.Solve (solving.NotConverged place steps update)) =
    Some (stopped (procedure (solving.NotConverged place steps update)))
ending_by_solver (compute.Solve solving.NoMemory) = None
ending_by_solver (compute.Cert (cert.Loose row mismatch)) = Some (stopped (uncertified (loose row mismatch)))
ending_by_solver (compute.Cert (cert.NotCertified place sum tried)) = Some (stopped (uncertified (uncertain place sum)))
ending_by_solver (compute.Cert cert.NoMemory) = None

abbrev pub ending_of : SettleFault ComputeFault → Option Ending
ending_of (fault.Range blame) = Some (range blame)
ending_of (fault.Solver f) = ending_by_solver f
ending_of (fault.Undecided control low high edge) =
    Some (ended (Undecidable control (record { low = low; high = high; edge = edge })))
ending_of (fault.ControlLimit acts) = Some (ended Limited)
ending_of fault.NoMemory = None

-- an ending is told, and P holds of it
abbrev pub IsEnding : Option Ending → (Ending → Type 0) → Type 0
IsEnding None P = ⊥
IsEnding (Some ending) P = P ending

-- ---- the failure with which the run ends

-- how the settle of an hour ends in the report: well, or with this failure
abbrev pub end_by : Option Failure → SettleEnd
end_by None = settled
end_by (Some x) = end_with x.fault x.tried

-- where the settle of an hour ends so with this machine, the run ends with this failure
abbrev pub IsFailureAt : CircuitView → ℕ → Machine → Failure → Ending → Type 0
IsFailureAt c hour n x ending = IsEndBy c hour ending n (end_by (Some x))

-- the number of acts that a fault names is that of the machine
abbrev pub IsCounted : SettleFault ComputeFault → Machine → Type 0
IsCounted (fault.ControlLimit acts) n = acts ≡ n.made
IsCounted other n = Unit {0}

-- the state that a fault of the solver tells is the one that the procedure reaches in this network
abbrev pub IsTried : Limits → NetworkView → ComputeFault → Type 0
IsTried limits v (compute.Cert f) = IsUncertified limits v f
IsTried limits v (compute.Solve f) = Unit {0}

abbrev pub IsTriedAt : CircuitView → ℕ → SettleFault ComputeFault → Machine → Type 0
IsTriedAt c hour (fault.Solver f) n = IsTried (limits_of c.options) ((plant_at c hour).network n.at) f
IsTriedAt c hour other n = Unit {0}

-- this failure tells how a settle of an hour of the circuit ended, whatever machine it left
abbrev pub TellsOf : CircuitView → ℕ → SettleFault ComputeFault → Failure → Type 0
TellsOf c hour e x =
    (n : Machine) → IsCounted e n → IsTriedAt c hour e n → IsEnding (ending_of e) (IsFailureAt c hour n x)

-- the same of a fault of the solver
abbrev pub TellsOfSolver : CircuitView → ℕ → ComputeFault → Failure → Type 0
TellsOfSolver c hour e x =
    (n : Machine) → IsTried (limits_of c.options) ((plant_at c hour).network n.at) e
    → IsEnding (ending_by_solver e) (IsFailureAt c hour n x)

-- the same of a fault of the procedure, which tells no state
abbrev pub TellsOfPoint : CircuitView → ℕ → SolveFault → Fault → Type 0
TellsOfPoint c hour e f =
    (n : Machine) → IsEnding (ending_by_solver (compute.Solve e)) (λ ending. IsEndBy c hour ending n (failed f))

-- the state that a fault tells
abbrev pub tried_in : ComputeFault → Option Certified
tried_in (compute.Solve f) = None
tried_in (compute.Cert (cert.Loose row mismatch)) = None
tried_in (compute.Cert (cert.NotCertified place sum tried)) = Some tried
tried_in (compute.Cert cert.NoMemory) = None

abbrev pub tried_at : SettleFault ComputeFault → Option Certified
tried_at (fault.Solver f) = tried_in f
tried_at other = None

-- the unknown or row that a fault names is one of n
abbrev pub IsWithin : ℕ → SettleFault ComputeFault → Type 0
IsWithin n (fault.Solver f) = IsPlaced n f
IsWithin n other = Unit {0}
