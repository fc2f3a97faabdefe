-- The least room in a script that a circuit's elements and Solves have taken.
use Rattle.std.specs.Prelude.{ℕ, ◌+◌, ◌*◌, length}
use Rattle.dss_commands.specs.dss_circuit.Circuit.{CircuitView}

-- each element took a New of a class of four letters or more
abbrev pub weight : CircuitView → ℕ
weight circuit = 11 * length circuit.elements + 6 * circuit.solves
