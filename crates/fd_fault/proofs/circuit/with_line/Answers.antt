use Rattle.std.proofs.Common.{◌≡◌, ◌∙◌, ◌≤◌, ◌<◌, ◌++◌, [], ◌∷◌, true, None, length, ap, sym, subst, arith}
use Rattle.std.specs.Map.{lookup}
use Rattle.std.proofs.lemmas.Bool.{false≢true}
use Rattle.indexmap.specs.IndexMap.{insert_entry}
use Rattle.dss_ready.specs.dss_model.declared.element.Element.{Element}
use Rattle.dss_ready.specs.dss_model.declared.element.Element.TheVariants as the
use Rattle.dss_ready.specs.dss_model.declared.names.ElementName.{ElementName}
use Rattle.dss_ready.specs.dss_model.SameElement.{same_element}
use Rattle.dss_ready.specs.dss_circuit.Circuit.{CircuitView, Elements, has_circuit}
use Rattle.dss_ready.specs.dss_circuit.Limits.{most_elements}
use Rattle.fd_fault.specs.FaultCircuit.{stripped}
use Rattle.fd_fault.specs.Naming.{IsNamed}
use Rattle.fd_fault.proofs.Dropping.{absent_still, begun_still, begun_where, put_last, shorter}
use Rattle.fd_fault.proofs.circuit.with_line.Goals as goal

pub put-requires-clause-room : goal.put-requires-clause-room
put-requires-clause-room c =
    let es = c.args.circuit.now.elements in
    let stand : c.strip.new.circuit ≡ record c.args.circuit.now { elements = stripped es } =
    c.strip.ensures ∙ ap (λ (v : CircuitView). record v { elements = stripped v.elements }) c.in_ok-fault.ensures in
    let fewer : length (stripped es) ≤ length es = shorter es in
    let room : length (stripped es) < most_elements = omega (arith, c.requires.room) in
    subst (λ (v : CircuitView). length v.elements < most_elements) (sym stand) room

pub put-requires-clause-source : goal.put-requires-clause-source
put-requires-clause-source c =
    let es = c.args.circuit.now.elements in
    let stand : c.strip.new.circuit ≡ record c.args.circuit.now { elements = stripped es } =
    c.strip.ensures ∙ ap (λ (v : CircuitView). record v { elements = stripped v.elements }) c.in_ok-fault.ensures in
    let begun : has_circuit es ≡ true = begun_where es c.args.bus.now c.args.kind c.requires.nodes in
    let still : has_circuit c.strip.new.circuit.elements ≡ true =
    ap (λ (v : CircuitView). has_circuit v.elements) stand ∙ begun_still es c.elements.ensures.keys c.elements.ensures.source begun in
    λ f. absurd (false≢true (sym f ∙ still))

pub returns : goal.returns
returns c =
    let circuit = c.args.circuit.now in
    let es = circuit.elements in
    let stand : c.strip.new.circuit ≡ record circuit { elements = stripped es } =
    c.strip.ensures ∙ ap (λ (v : CircuitView). record v { elements = stripped v.elements }) c.in_ok-fault.ensures in
    let name : ElementName = c.in_ok-name.name in
    let named : IsNamed es name = subst (λ (xs : Elements). IsNamed xs name) c.elements.ensures.entries c.in_ok-name.ensures.name in
    let line : Element = the.Line c.in_ok-line.line in
    let absent : lookup (same_element name) (stripped es) ≡ None =
    absent_still name es (ap (λ (m : ElementName). lookup (same_element m) es) named.is ∙ named.first.free) in
    record {
      nodes = c.requires.nodes;
      number = named.number;
      name = named.first;
      is =
          c.in_ok-put.ensures.put
          ∙ ap (λ (v : CircuitView). record v { elements = insert_entry same_element v.elements name line }) stand
          ∙ ap (λ (xs : Elements). record circuit { elements = xs }) (put_last (stripped es) name line absent)
          ∙ (λ i. record circuit { elements = stripped es ++ (named.is i, the.Line (c.in_ok-line.ensures.line i)) ∷ [] });
    }
