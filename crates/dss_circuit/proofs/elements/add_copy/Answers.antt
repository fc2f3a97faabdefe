use Rattle.std.proofs.Common.{Bool, ap, ◌∙◌, ◌≡◌}
use Rattle.indexmap.specs.IndexMap.{insert_entry}
use Rattle.dss_model.specs.declared.element.Element.{Element}
use Rattle.dss_model.specs.declared.names.ElementName.{ElementName}
use Rattle.dss_model.specs.SameElement.{same_element}
use Rattle.dss_model.proofs.CallerLemmas.{compares}
use Rattle.dss_circuit.proofs.elements.add_copy.Goals as goal

pub returns : goal.returns
returns c =
    let es = c.args.into.now.entries in
    let parts = c.in_ok-name.ensures.cases in
    let name : c.in_ok-name.name ≡ c.args.name.now = λ i. record { class = parts.0 i; name = parts.1 i } in
    c.in_ok-insert.ensures.entries
    ∙ ap (λ (same : ElementName → ElementName → Bool). insert_entry same es c.in_ok-name.name c.in_ok-element.element) compares
    ∙ ap (λ (k : ElementName). insert_entry same_element es k c.in_ok-element.element) name
    ∙ ap (λ (e : Element). insert_entry same_element es c.args.name.now e) c.in_ok-element.ensures
