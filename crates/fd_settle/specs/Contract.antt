-- What `settle` says: its rounds, and how it ends.
use Rattle.std.specs.Prelude.{◌≡◌, ◌⊎◌, List, ◌++◌, Some, Result, Ok, Err}
use Rattle.fd_inject.specs.fd_pattern.Views.{NetworkView}
use Rattle.fd_cert.specs.fd_enclosure.Sound.{Claim}
use Rattle.fd_sample.specs.fd_queue.Machine.{Machine}
use Rattle.fd_settle.specs.declared.round.Round.{Round}
use Rattle.fd_settle.specs.declared.fault.SettleFault.{SettleFault}
use Rattle.fd_settle.specs.declared.fault.SettleFault.TheVariants as fault
use Rattle.fd_sample.specs.dss_circuit.Circuit.{CircuitView}
use Rattle.fd_sample.specs.dss_model.declared.options.Options.{Options}
use Rattle.fd_sample.specs.fd_elements.declared.powers.LoadPower.{LoadPower}
use Rattle.fd_inject.specs.declared.limits.Limits.{Limits}
use Rattle.fd_settle.specs.Settle.{End, Open, Settled, Limited, Undecidable}
use Rattle.fd_settle.specs.Plant.{Plant, plant_of}
use Rattle.fd_settle.specs.Rounds.{AtEach, acts_in, claims_in, settled}
use Rattle.fd_settle.specs.Start.{IsSoundAt}
use Rattle.fd_settle.specs.Calls.{AreCalls, IsLast, IsMissing}

-- how many steps the options allow, and how far an unknown may still move
abbrev pub limits_of : Options → Limits
limits_of o = record { max_iterations = o.maxiterations; tolerance = o.tolerance }

-- How the settle over the rounds ends, and so why it ended. It is open where a call was refused.
abbrev pub EndsAs : {T F : Type 0} → Plant → Result T (SettleFault F) → End → Machine → Type 0
EndsAs p (Ok t) end m = end ≡ Settled
EndsAs p (Err (fault.Undecided control low high edge)) end m = end ≡ Undecidable control (record { low = low; high = high; edge = edge })
EndsAs p (Err (fault.ControlLimit acts)) end m = (end ≡ Limited) × (acts ≡ m.made)
EndsAs p (Err (fault.Range blame)) end m = (end ≡ Open) × (p.blame m.at ≡ Some blame)
EndsAs p (Err (fault.Solver f)) end m = end ≡ Open
EndsAs p (Err fault.NoMemory) end m = end ≡ Open

-- The solver's calls are those of the rounds; the solver's own fault is its last answer; after want of memory
-- the last state may be missing.
abbrev pub CallsAs : {V T F : Type 0} → (V → NetworkView → Result Claim F → V → Type 0) → Plant → V → Machine
    → List Round → Result T (SettleFault F) → V → Type 0
CallsAs gives p v m rounds (Err (fault.Solver f)) w = IsLast gives p v m rounds (Err f) w
CallsAs gives p v m rounds (Err fault.NoMemory) w = AreCalls gives p v m (claims_in rounds) w ⊎ IsMissing gives p v m rounds w
CallsAs gives p v m rounds (Err (fault.Undecided control low high edge)) w = AreCalls gives p v m (claims_in rounds) w
CallsAs gives p v m rounds (Err (fault.ControlLimit acts)) w = AreCalls gives p v m (claims_in rounds) w
CallsAs gives p v m rounds (Err (fault.Range blame)) w = AreCalls gives p v m (claims_in rounds) w
CallsAs gives p v m rounds (Ok t) w = AreCalls gives p v m (claims_in rounds) w

-- These rounds are those of a settle of a circuit from machine m on, with the loads at these powers. Their acts are those
-- of the settle over their certified states, and machine n is what it leaves; it ends as that settle ends. The solver was
-- called once for each of them, in order, and once more where it answered a fault; each certified state is sound.
pub record IsSettled {V T F : Type 0} (gives : V → NetworkView → Result Claim F → V → Type 0) (c : CircuitView)
    (loads : List LoadPower) (v w : V) (m n : Machine) (result : Result T (SettleFault F)) (rounds : List Round)
    : Type 0 where
  pub acts : acts_in rounds ≡ (settled (plant_of c loads) m rounds).rounds
  pub machine : n ≡ (settled (plant_of c loads) m rounds).machine
  pub ends : EndsAs (plant_of c loads) result (settled (plant_of c loads) m rounds).end
      (settled (plant_of c loads) m rounds).machine
  pub calls : CallsAs gives (plant_of c loads) v m rounds result w
  pub sound : AtEach (IsSoundAt c loads) (plant_of c loads) m (claims_in rounds)

-- The same of the rounds that were made, which a journal now holds behind those that it held before.
pub record HasSettled {V T F K : Type 0} (gives : V → NetworkView → Result Claim F → V → Type 0)
    (holds : K → List Round → Type 0) (c : CircuitView) (loads : List LoadPower) (v w : V) (m n : Machine) (old new : K)
    (result : Result T (SettleFault F)) : Type 0 where
  pub made : List Round
  pub kept : (before : List Round) → holds old before → holds new (before ++ made)
  pub settled : IsSettled gives c loads v w m n result made
