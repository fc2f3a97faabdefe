-- What a settle comes to where its states are computed: its rounds, how it ends, and what it leaves.
use Rattle.std.specs.Prelude.{◌≡◌, ◌≤◌, List, [], ◌∷◌, map, Some, None, Result, Ok, Err}
use Rattle.fd_sample.specs.dss_model.declared.command.Blame.{Blame}
use Rattle.fd_cert.specs.Claims.{claim_in}
use Rattle.fd_cert.specs.declared.fault.CertFault.TheVariants as cert
use Rattle.fd_cert.specs.fd_enclosure.Sound.{Claim, loose, uncertain}
use Rattle.fd_inject.specs.fd_pattern.Views.{NetworkView}
use Rattle.fd_inject.specs.Faults.{UnlessMemory}
use Rattle.fd_sample.specs.fd_queue.Machine.{Machine, Act}
use Rattle.fd_settle.specs.declared.compute.ComputeFault.{ComputeFault}
use Rattle.fd_settle.specs.declared.compute.ComputeFault.TheVariants as compute
use Rattle.fd_settle.specs.declared.fault.SettleFault.{SettleFault}
use Rattle.fd_settle.specs.declared.fault.SettleFault.TheVariants as fault
use Rattle.fd_settle.specs.declared.round.Round.{Round}
pub use Rattle.fd_settle.specs.Compute.{Stop, procedure, uncertified}
use Rattle.fd_settle.specs.Plant.{Plant}
use Rattle.fd_settle.specs.Rounds.{seen}
use Rattle.fd_settle.specs.Settle.{End, Settled, Limited, Undecidable, Outcome, Ends, Moves, outcome_of}

-- how a settle ends; a network that is out of range isn't solved
pub data Ending : Type 0 where
  ended : End → Ending
  range : Blame → Ending
  stopped : Stop → Ending

-- a way to answer each network, with a certified state or with what stops it
abbrev pub Answering : Type 0
Answering = NetworkView → Result Claim Stop

-- ---- the rounds, each a certified state with its acts

-- what follows a round
abbrev pub Follows : Outcome → List Act → List (Claim × List Act) → Ending → Machine → (Machine → Type 0) → Type 0
Follows (Ends end k) acts rest ending n P = (acts ≡ []) × ((rest ≡ []) × ((ending ≡ ended end) × (n ≡ k)))
Follows (Moves made k) acts rest ending n P = (acts ≡ made) × P k

-- from a machine on: these rounds, this ending, and the machine that is left
abbrev pub IsComputedFrom : Answering → Plant → Machine → List (Claim × List Act) → Ending → Machine → Type 0
IsComputedFrom answer p m [] (ended end) n = ⊥
IsComputedFrom answer p m [] (range blame) n = (p.blame m.at ≡ Some blame) × (n ≡ m)
IsComputedFrom answer p m [] (stopped stop) n = (p.blame m.at ≡ None) × ((answer (p.network m.at) ≡ Err stop) × (n ≡ m))
IsComputedFrom answer p m (r ∷ rest) ending n =
    (p.blame m.at ≡ None) × ((answer (p.network m.at) ≡ Ok r.0)
    × Follows (outcome_of p.setup m (p.look m.at r.0)) r.1 rest ending n (λ k. IsComputedFrom answer p k rest ending n))

-- the rounds that the code made
abbrev pub computed_in : List Round → List (Claim × List Act)
computed_in rounds = map (λ r. (claim_in r.certified.value, map seen r.acts.items)) rounds

-- ---- what an answer tells of the ending; want of memory tells nothing

abbrev pub EndsBySolver : ComputeFault → (Ending → Type 0) → Type 0
EndsBySolver (compute.Solve f) P = UnlessMemory f (P (stopped (procedure f)))
EndsBySolver (compute.Cert (cert.Loose row mismatch)) P = P (stopped (uncertified (loose row mismatch)))
EndsBySolver (compute.Cert (cert.NotCertified place sum tried)) P = P (stopped (uncertified (uncertain place sum)))
EndsBySolver (compute.Cert cert.NoMemory) P = Unit {0}

abbrev pub EndsSo : {T : Type 0} → Result T (SettleFault ComputeFault) → (Ending → Type 0) → Type 0
EndsSo (Ok t) P = P (ended Settled)
EndsSo (Err (fault.Undecided control low high edge)) P = P (ended (Undecidable control (record { low = low; high = high; edge = edge })))
EndsSo (Err (fault.ControlLimit acts)) P = P (ended Limited)
EndsSo (Err (fault.Range blame)) P = P (range blame)
EndsSo (Err (fault.Solver f)) P = EndsBySolver f P
EndsSo (Err fault.NoMemory) P = Unit {0}

-- ---- there is exactly one

pub record Computation : Type 0 where
  pub rounds : List (Claim × List Act)
  pub ending : Ending
  pub machine : Machine

abbrev pub IsComputation : Answering → Plant → Machine → Computation → Type 0
IsComputation answer p m c = IsComputedFrom answer p m c.rounds c.ending c.machine

pub record HasOneComputation (answer : Answering) (p : Plant) (m : Machine) : Type 0 where
  pub some : Computation
  pub is : IsComputation answer p m some
  pub only : (c : Computation) → IsComputation answer p m c → c ≡ some

-- whatever the way to answer is
abbrev pub ComputationLaw : Type 0
ComputationLaw = (answer : Answering) (p : Plant) (m : Machine) → m.made ≤ p.setup.limit → HasOneComputation answer p m
