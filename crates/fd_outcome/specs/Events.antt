-- What happens in a command line: events in order, and an end.
use Rattle.std.specs.Prelude.{ℕ, List, [], ◌∷◌, ◌++◌, Option, Some, None}
use Rattle.std.specs.List.{All, flat_map}
use Rattle.fd_report.specs.dss_circuit.Circuit.{CircuitView}
use Rattle.fd_report.specs.fd_enclosure.Sound.{Claim}
use Rattle.fd_report.specs.fd_queue.declared.entry.Entry.{Entry}
use Rattle.fd_report.specs.declared.faults.Fault.{Fault}
use Rattle.fd_report.specs.declared.ladders.Ladder.{Ladder}
use Rattle.fd_outcome.specs.Settles.{Settle}

-- Names are texts.
pub data Event : Type 0 where
  -- a file is asked for by name
  asked : List ℕ → Event
  settle : Settle → Event
  -- a Solve of a circuit is done, and these entries wait in the queue of its controls
  waits : CircuitView → List Entry → Event
  -- a ladder sweep of a circuit, and what it comes to beside a certified state
  swept : CircuitView → Claim → Ladder → Event
  -- a record by its fields
  row : List (List ℕ) → Event
  -- a line of text without its line feed
  line : List ℕ → Event

-- always followed to its end: a fault, or none
pub record History : Type 0 where
  pub events : List Event
  pub end : Option Fault

abbrev pub ended : List Event → Fault → History
ended events fault = record { events = events; end = Some fault }

abbrev pub finishes : List Event → History
finishes events = record { events = events; end = None }

-- these events, and then a history
abbrev pub before : List Event → History → History
before events h = record { events = events ++ h.events; end = h.end }

abbrev pub name_in : Event → List (List ℕ)
name_in (asked name) = name ∷ []
name_in other = []

-- the names asked for, in order
abbrev pub names_of : List Event → List (List ℕ)
names_of events = flat_map name_in events

-- these events, and behind each settle what stands beside it
abbrev pub with_behind : (Settle → List Event) → Event → List Event
with_behind beside (settle s) = settle s ∷ beside s
with_behind beside other = other ∷ []

abbrev pub behind_settles : (Settle → List Event) → List Event → List Event
behind_settles beside events = flat_map (with_behind beside) events

-- ---- a property of settles

abbrev pub IfSettle : (Settle → Type 0) → Event → Type 0
IfSettle good (settle s) = good s
IfSettle good other = Unit {0}

-- each settle of these events has it
abbrev pub AllSettles : (Settle → Type 0) → List Event → Type 0
AllSettles good events = All (IfSettle good) events
