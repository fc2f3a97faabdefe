use Rattle.std.proofs.Common.{sym, subst}
use Rattle.dss_circuit.specs.Circuit.{CircuitView}
use Rattle.dss_circuit.specs.Without.{OthersNameNone}
use Rattle.dss_circuit.proofs.circuit.Circuit.drop_class.Goals as goal

pub drop_elements-requires-clause-named : goal.drop_elements-requires-clause-named
drop_elements-requires-clause-named c = subst (λ (v : CircuitView). OthersNameNone c.args.dropped v.elements) (sym c.self.view_is) c.requires.named
