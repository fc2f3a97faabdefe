-- The walk over the elements ends.
use Rattle.std.specs.Prelude.{◌≡◌}
use Rattle.dss_circuit.specs.Circuit.{Elements}
use Rattle.fd_bases.specs.Walk.{pass, reached_in}

-- a further pass reaches no bus
abbrev pub SettledLaw : Type 0
SettledLaw = (elements : Elements) → pass elements (reached_in elements) ≡ reached_in elements
