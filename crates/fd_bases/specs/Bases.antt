-- The voltage bases of a circuit's buses.
use Rattle.std.specs.Prelude.{ℤ, List, [], ◌∷◌, map}
use Rattle.dss_circuit.specs.Circuit.{CircuitView}
use Rattle.fd_bases.specs.declared.bus_base.BusBase.{BusBase}
use Rattle.fd_bases.specs.Nearest.{nearest}
use Rattle.fd_bases.specs.Walk.{Reached, reached_in}

-- each bus that is reached has the base that is nearest to its nominal voltage; where there are no bases there is
-- nothing
abbrev pub based : List ℤ → Reached → List BusBase
based [] reached = []
based (base ∷ bases) reached = map (λ at. record { bus = at.0; kv = nearest at.1 (base ∷ bases) }) reached

-- the bases of the buses, in the order in which the buses are reached
abbrev pub bases_of : CircuitView → List BusBase
bases_of circuit = based circuit.options.voltagebases (reached_in circuit.elements)
