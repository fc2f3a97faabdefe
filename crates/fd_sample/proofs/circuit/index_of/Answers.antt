use Rattle.std.proofs.Common.{◌∙◌, ap, Bool, map, is_some}
use Rattle.std.specs.List.{position}
use Rattle.std.specs.Map.{lookup}
use Rattle.fd_network.specs.dss_model.declared.element.Element.{Element}
use Rattle.fd_network.specs.dss_model.declared.names.ElementName.{ElementName}
use Rattle.fd_network.proofs.CallerLemmas.dss_model.{compares}
use Rattle.fd_sample.proofs.Places.{there_by}
use Rattle.fd_sample.proofs.circuit.index_of.Goals as goal

pub returns-clause-place : goal.returns-clause-place
returns-clause-place c =
    c.get_index_of.ensures.index
    ∙ ap (λ (same : ElementName → ElementName → Bool).
    position (same c.args.name.now) (map (λ (e : ElementName × Element). e.0) c.args.elements.now.entries))
    compares

pub returns-clause-there : goal.returns-clause-there
returns-clause-there c = there_by c.get_index_of.result c.args.elements.now.entries _ _
    (ap (λ (same : ElementName → ElementName → Bool). lookup (same c.args.name.now) c.args.elements.now.entries) compares) c.get_index_of.ensures.value

pub returns-clause-found : goal.returns-clause-found
returns-clause-found c = c.get_index_of.ensures.found
    ∙ ap (λ (same : ElementName → ElementName → Bool). is_some (lookup (same c.args.name.now) c.args.elements.now.entries)) compares
