use Rattle.std.proofs.Common.{◌∙◌, ap, sym, subst}
use Rattle.dss_circuit.specs.dss_model.Element.{class_of}
use Rattle.dss_circuit.proofs.CallerLemmas.dss_model.{fresh_class}
use Rattle.dss_circuit.specs.WellFormed.{NamesAreThere}
use Rattle.dss_commands.proofs.Named.{fresh_names}
use Rattle.dss_commands.proofs.elements.make_element.Goals as goal

pub put_element-requires-clause-class : goal.put_element-requires-clause-class
put_element-requires-clause-class c = sym (ap class_of c.in_ok-element.ensures.value ∙ fresh_class _ c.args.name.class _)

pub put_element-requires-clause-named : goal.put_element-requires-clause-named
put_element-requires-clause-named c =
    subst (NamesAreThere c.args.circuit.now.elements) (sym c.in_ok-element.ensures.value)
    (fresh_names c.args.circuit.now.elements _ c.args.name.class _)
