use Rattle.std.proofs.Common.{◌∙◌, Bool, ap, is_some}
use Rattle.std.specs.Map.{lookup}
use Rattle.fd_devices.specs.dss_model.declared.names.ElementName.{ElementName}
use Rattle.fd_devices.proofs.CallerLemmas.dss_circuit.dss_model.{compares}
use Rattle.fd_settings.proofs.Daily.{found_at}
use Rattle.fd_settings.proofs.hours.place_of.Goals as goal

pub returns : goal.returns
returns c =
    let same = ap (λ (same : ElementName → ElementName → Bool). lookup (same c.args.name.now) c.args.elements.now.entries) compares in
    found_at c.args.elements.now.entries c.get_index_of.result _ _ same (c.get_index_of.ensures.found ∙ ap is_some same)
    c.get_index_of.ensures.value
