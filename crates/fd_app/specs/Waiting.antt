-- The entries that wait in the queue when a settle has ended.
use Rattle.std.specs.Prelude.{◌≡◌, ◌↔◌, ℕ, List, [], ◌∷◌, Option, Some, None, IfSome, IsSome}
use Rattle.fd_checking.specs.dss_circuit.Circuit.{CircuitView}
use Rattle.fd_checking.specs.fd_queue.Machine.{Machine}
use Rattle.fd_checking.specs.fd_queue.declared.entry.Entry.{Entry}
use Rattle.fd_checking.specs.fd_queue.declared.timing.Timing.TheVariants as timing
use Rattle.fd_checking.specs.fd_settle.Laws.{NothingDue}
use Rattle.fd_checking.specs.fd_settle.Plant.{setup_of, timing_of}
use Rattle.fd_checking.specs.fd_settle.Settle.{Open, Settled, Limited, Undecidable, Outcome, Ends, Moves}
use Rattle.fd_checking.specs.fd_outcome.Events.{Event}
use Rattle.fd_checking.specs.fd_outcome.Settles.{Settle, settled}

-- what a settle that ended well left: its machine, and the hours of its Solve that come then
pub record Left : Type 0 where
  pub machine : Machine
  pub hours : List ℕ

-- by what its last round comes to
abbrev pub left_at_end : List ℕ → Outcome → Option Left
left_at_end hours (Ends Settled m) = Some (record { machine = m; hours = hours })
left_at_end hours (Ends Open m) = None
left_at_end hours (Ends Limited m) = None
left_at_end hours (Ends (Undecidable k u) m) = None
left_at_end hours (Moves acts m) = None

-- entries of a queue, of the controls of a circuit
pub record Waiting : Type 0 where
  pub circuit : CircuitView
  pub entries : List Entry

-- what waits is told behind the last hour of a Solve, and behind no other settle
abbrev pub queue_behind : CircuitView → Machine → List ℕ → Option Waiting
queue_behind c m [] = Some (record { circuit = c; entries = m.queue })
queue_behind c m (hour ∷ hours) = None

abbrev pub waiting_behind : CircuitView → Option Left → Option Waiting
waiting_behind c None = None
waiting_behind c (Some l) = queue_behind c l.machine l.hours

-- these entries are what is to be told, and where nothing is there are none
abbrev pub AreWaiting : Option Waiting → CircuitView → List Entry → Type 0
AreWaiting (Some w) c es = (c ≡ w.circuit) × (es ≡ w.entries)
AreWaiting None c es = es ≡ []

-- a machine with which a settle may end: no entry of its queue is due at its time, and in static mode none is left
pub record IsAtRest (c : CircuitView) (m : Machine) : Type 0 where
  pub none_due : NothingDue (setup_of c) m
  pub empty : timing_of c.options.controlmode ≡ timing.Static → m.queue ≡ []

-- a settle leaves a machine where it ended well, and no entry is due in it
pub record IsEnd (x : Settle) (l : Option Left) : Type 0 where
  pub well : x.end ≡ settled ↔ IsSome l
  pub at_rest : IfSome l (λ left. IsAtRest x.circuit left.machine)

-- nothing stands behind a settle that ended with a fault
abbrev pub IsLastAtFault : Settle → List Event → Type 0
IsLastAtFault x events = (x.end ≡ settled → ⊥) → events ≡ []
