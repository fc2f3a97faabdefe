-- The voltage bases of a circuit's buses, as events and as texts.
use Rattle.std.specs.Prelude.{ℕ, List, map}
use Rattle.fd_bases.specs.dss_circuit.Circuit.{CircuitView}
use Rattle.fd_bases.specs.Bases.{bases_of}
use Rattle.fd_bases.specs.declared.bus_base.BusBase.{BusBase}
use Rattle.fd_outcome.specs.fd_report.Bases.{base_fields}
use Rattle.fd_outcome.specs.fd_report.Lines.{line_of}
use Rattle.fd_outcome.specs.Events.{Event, row}

-- a row for each bus that is reached
abbrev pub base_events : CircuitView → List Event
base_events c = map (λ b. row (base_fields b.bus b.kv)) (bases_of c)

-- the text of each record of voltage bases
abbrev pub base_texts : List BusBase → List (List ℕ)
base_texts bases = map (λ b. line_of (base_fields b.bus b.kv)) bases
