use Rattle.std.proofs.Common.{◌≡◌, ◌++◌}
use Rattle.dss_circuit.proofs.elements.copied_elements.Given as goal

-- with those that are left, all of them
abbrev pub invariant-loop-name : goal.invariant-loop-name
invariant-loop-name l = l.copy.entries ++ l.name-iterator ≡ l.elements.entries
