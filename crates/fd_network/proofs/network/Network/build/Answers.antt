use Rattle.std.proofs.Common.{◌≡◌, ◌∙◌, map, ap, refl, subst, sym}
use Rattle.dss_ready.specs.dss_layout.Layout.{size_of}
use Rattle.fd_equations.specs.fd_pattern.Conditions.{IsNetwork}
use Rattle.fd_devices.specs.fd_system.System.{stamp_with}
use Rattle.fd_equations.specs.fd_pattern.Views.{NetworkView, network_of}
use Rattle.fd_devices.specs.Devices.{device_stamp}
use Rattle.fd_devices.specs.Scripted.{devices_of}
use Rattle.fd_devices.specs.Settings.{AreSettings, Settings, settings_of}
use Rattle.fd_network.proofs.Assembling.{no_fault}
use Rattle.fd_network.proofs.Building.{no_blame}
use Rattle.fd_network.proofs.Parting.{exact_parts, joined_rows, stamps_again}
use Rattle.fd_network.proofs.network.Network.build.Goals as goal

pub invariant_of-result : goal.invariant_of-result
invariant_of-result c =
    let parts = c.in_ok-parts.field-0.parts in
    let ds = devices_of c.args.circuit.now (settings_of c.args.at.now c.args.powers.now) in
    let stamp = stamp_with parts.constants.items parts.rows.terms parts.rows.loads parts.draw in
    let counts = c.counts-counts.ensures in (
      record {
        rows = joined_rows ds c.counts-counts.result _ parts counts c.in_ok-parts.ensures.extents
            (ap (λ (v : NetworkView). v.stamp) c.in_ok-parts.ensures.network);
        network = subst (λ n. IsNetwork (network_of n stamp)) (sym counts) c.in_ok-parts.ensures.valid;
        size = subst (λ n. (network_of n stamp).size ≡ size_of c.in_ok-layout.layout) (sym counts) refl;
      },
      c.in_ok-parts.ensures.size,
      counts,
      c.in_ok-parts.ensures.roomy,
      exact_parts ds parts c.in_ok-parts.ensures.extents (ap (λ (v : NetworkView). v.stamp) c.in_ok-parts.ensures.network),
    )

pub returns-clause-built : goal.returns-clause-built
returns-clause-built c =
    let circuit = c.args.circuit.now in
    let settings : settings_of c.in_ok-own_at.own_at c.in_ok-own_powers.own_powers ≡ settings_of c.args.at.now c.args.powers.now =
    λ i. settings_of (c.in_ok-own_at.ensures i) (c.in_ok-own_powers.ensures i) in
    record {
      layout = c.in_ok-layout.ensures;
      settings = subst (AreSettings circuit.elements) (sym settings) c.requires.settings;
      stamps = stamps_again (devices_of circuit (settings_of c.args.at.now c.args.powers.now)) _ _ _ _ _
          c.in_ok-parts.ensures.extents (ap (λ (v : NetworkView). v.stamp) c.in_ok-parts.ensures.network)
          ∙ ap (λ (s : Settings). map device_stamp (devices_of circuit s)) (sym settings);
      kept = c.in_ok-parts.ensures.kept;
      reach = c.in_ok-parts.ensures.reach;
      room = c.in_ok-parts.ensures.room;
    }

-- no element is to blame where all are in range
pub returns-clause-no_blame : goal.returns-clause-no_blame
returns-clause-no_blame c =
    let ds = devices_of c.args.circuit.now (settings_of c.args.at.now c.args.powers.now) in
    no_blame c.args.circuit.now.elements ds (no_fault ds c.in_ok-parts.ensures.in_range)
