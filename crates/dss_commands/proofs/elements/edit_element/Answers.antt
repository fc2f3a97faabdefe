use Rattle.std.proofs.Common.{◌≡◌, ◌∙◌, IfSome, Some, ap, sym, subst}
use Rattle.dss_circuit.specs.dss_model.InRange.{ElementInRange}
use Rattle.dss_circuit.specs.dss_model.Element.{class_of}
use Rattle.dss_circuit.specs.WellFormed.{NamesAreThere}
use Rattle.dss_circuit.proofs.CallerLemmas.{found_begun, found_class, of_found}
use Rattle.dss_commands.proofs.Steps.{found_in}
use Rattle.dss_commands.proofs.elements.edit_element.Goals as goal

pub put_element-requires-clause-in_range : goal.put_element-requires-clause-in_range
put_element-requires-clause-in_range c =
    let found = found_in c.args.name _ c.args.circuit.now.elements c.in-Some.element.now c.in-Some.ensures c.elements.ensures.entries in
    let there : IfSome (Some c.in-Some.element.now) ElementInRange =
    subst (λ found. IfSome found ElementInRange) (sym found) (of_found ElementInRange _ c.args.circuit.now.elements c.elements.ensures.in_range) in
    subst ElementInRange (sym c.in_ok-draft-in-Some.ensures) there

pub put_element-requires-clause-class : goal.put_element-requires-clause-class
put_element-requires-clause-class c =
    let found = found_in c.args.name _ c.args.circuit.now.elements c.in-Some.element.now c.in-Some.ensures c.elements.ensures.entries in
    let there : IfSome (Some c.in-Some.element.now) (λ e. c.args.name.class ≡ class_of e) =
    subst (λ found. IfSome found (λ e. c.args.name.class ≡ class_of e)) (sym found)
    (found_class c.args.name c.args.circuit.now.elements c.elements.ensures.keys) in
    there ∙ ap class_of (sym c.in_ok-draft-in-Some.ensures)

pub put_element-requires-clause-source : goal.put_element-requires-clause-source
put_element-requires-clause-source c = λ none.
    let found = found_in c.args.name _ c.args.circuit.now.elements c.in-Some.element.now c.in-Some.ensures c.elements.ensures.entries in
    let begun = found_begun c.args.name c.args.circuit.now.elements c.in-Some.element.now (sym found) in
    absurd (cc (none, begun))

pub put_element-requires-clause-named : goal.put_element-requires-clause-named
put_element-requires-clause-named c =
    let found = found_in c.args.name _ c.args.circuit.now.elements c.in-Some.element.now c.in-Some.ensures c.elements.ensures.entries in
    let names = NamesAreThere c.args.circuit.now.elements in
    let there : IfSome (Some c.in-Some.element.now) names =
    subst (λ found. IfSome found names) (sym found) (of_found names _ c.args.circuit.now.elements c.elements.ensures.named) in
    subst names (sym c.in_ok-draft-in-Some.ensures) there
