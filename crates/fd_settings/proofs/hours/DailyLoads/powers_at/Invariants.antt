use Rattle.std.proofs.Common.{◌≡◌, take}
use Rattle.std.specs.List.{All, flat_map}
use Rattle.fd_devices.specs.dss_model.declared.element.Element.{Element}
use Rattle.fd_devices.specs.dss_model.declared.names.ElementName.{ElementName}
use Rattle.fd_devices.specs.Building.{IsModest}
use Rattle.fd_settings.specs.Hours.{element_powers}
use Rattle.fd_settings.proofs.hours.DailyLoads.powers_at.Given as goal

abbrev pub invariant-loop-place : goal.invariant-loop-place
invariant-loop-place l = record {
  powers : l.powers.items ≡ flat_map (λ (e : ElementName × Element). element_powers l.circuit.elements l.hour e.1) (take l.place l.circuit.elements);
  modest : All IsModest l.powers.items;
}
