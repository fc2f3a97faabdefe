use Rattle.std.proofs.Common.{◌∙◌, ap, sym, subst}
use Rattle.dss_ready.specs.dss_model.declared.names.Class.TheVariants as class
use Rattle.dss_ready.specs.dss_circuit.Circuit.{CircuitView, Elements}
use Rattle.dss_ready.specs.dss_circuit.Without.{OthersNameNone, without}
use Rattle.fd_fault.proofs.Dropping.{chained, no_bank_named}
use Rattle.fd_fault.proofs.circuit.strip.Goals as goal

pub drop_loads-requires : goal.drop_loads-requires
drop_loads-requires c =
    subst (λ (v : CircuitView). OthersNameNone class.Capacitor v.elements) (sym c.drop_controls.ensures)
    (no_bank_named c.args.circuit.now.elements c.elements-elements.ensures.keys)

pub returns : goal.returns
returns c =
    c.drop_loads.ensures
    ∙ ap (λ (v : CircuitView). record v { elements = without class.Load (without class.Capacitor v.elements) }) c.drop_controls.ensures
    ∙ ap (λ (es : Elements). record c.args.circuit.now { elements = es }) (chained c.args.circuit.now.elements c.elements-elements.ensures.keys)
