use Rattle.std.proofs.Common.{◌∙◌, ap, Bool}
use Rattle.std.specs.Map.{lookup}
use Rattle.dss_model.specs.declared.names.ElementName.{ElementName}
use Rattle.dss_model.proofs.CallerLemmas.{compares}
use Rattle.dss_circuit.proofs.elements.find_element.Goals as goal

pub returns : goal.returns
returns c = c.get.ensures.value ∙ ap (λ (same : ElementName → ElementName → Bool). lookup (same c.args.name.now) c.args.elements.now.entries) compares
