use Rattle.std.proofs.Common.{◌≡◌, ◌∙◌, map, ap, subst, sym}
use Rattle.dss_ready.specs.dss_layout.Layout.{layout_of}
use Rattle.fd_devices.specs.fd_system.System.{joined, stamp_with}
use Rattle.fd_equations.specs.fd_pattern.Conditions.{IsNetwork}
use Rattle.fd_equations.specs.fd_pattern.Views.{NetworkView, network_of}
use Rattle.fd_devices.specs.Devices.{device_stamp}
use Rattle.fd_devices.specs.Scripted.{devices_of, layout_counts}
use Rattle.fd_devices.specs.Settings.{AreSettings, Settings, settings_of}
use Rattle.fd_network.specs.Assembled.{HaveRoom}
use Rattle.fd_network.specs.Built.{BuiltView, IsBuiltOf}
use Rattle.fd_network.specs.Keeping.{AreKept, Reaches}
use Rattle.fd_network.proofs.Assembling.{no_fault}
use Rattle.fd_network.proofs.Building.{no_blame}
use Rattle.fd_network.proofs.Before.{parts_stand}
use Rattle.fd_network.proofs.Standing.{devices_fit}
use Rattle.fd_network.proofs.Parting.{exact_parts, joined_rows, stamps_again}
use Rattle.fd_network.proofs.network.Network.update.Goals as goal

pub fill-filled-requires-clause-reach : goal.fill-filled-requires-clause-reach
fill-filled-requires-clause-reach c =
    let circuit = c.args.circuit.now in
    subst (λ (v : BuiltView).
    Reaches (layout_of circuit.elements) circuit.options.defaultbasefrequency circuit.elements v.places)
    (sym c.self.view_is) c.requires.built.reach

pub fill-filled-requires-clause-before : goal.fill-filled-requires-clause-before
fill-filled-requires-clause-before c =
    let circuit = c.args.circuit.now in
    let es = circuit.elements in
    let layout = layout_of es in
    let hertz = circuit.options.defaultbasefrequency in
    let parts = c.self.inside.parts in
    let s = settings_of c.self.inside.at c.self.inside.powers in
    let ds = devices_of circuit s in
    let inv = c.self.invariant in
    let built = subst (λ v. IsBuiltOf v circuit) (sym c.self.view_is) c.requires.built in
    let rows = inv.0.rows ∙ ap (λ ss. network_of (layout_counts c.self.inside.layout) (joined ss)) built.stamps in
    let fits = devices_fit (layout_counts c.self.inside.layout) ds (subst IsNetwork rows inv.0.network) in
    parts_stand layout hertz es parts c.of-before.result s c.of-before.ensures built.settings inv.4 built.stamps fits

pub invariant_of-self : goal.invariant_of-self
invariant_of-self c =
    let parts = c.fill-filled.new.parts in
    let ds = devices_of c.args.circuit.now (settings_of c.args.at.now c.args.powers.now) in
    let inv = c.self.invariant in (
      record {
        rows = joined_rows ds c.self.inside.counts _ parts inv.2 c.in-Ok.ensures.extents (ap (λ (v : NetworkView). v.stamp) c.in-Ok.ensures.network);
        network = subst (λ n.
            IsNetwork (network_of n (stamp_with parts.constants.items parts.rows.terms parts.rows.loads parts.draw)))
            (sym inv.2) c.in-Ok.ensures.valid;
        size = inv.0.size;
      },
      c.fill-filled.ensures.size,
      inv.2,
      subst (λ r. HaveRoom r parts c.fill-filled.new.lists)
          (sym (ap (λ (v : BuiltView). v.room) c.self.view_is ∙ c.requires.built.room)) c.fill-filled.ensures.room,
      exact_parts ds parts c.in-Ok.ensures.extents (ap (λ (v : NetworkView). v.stamp) c.in-Ok.ensures.network),
    )

pub returns-in-Ok-clause-built : goal.returns-in-Ok-clause-built
returns-in-Ok-clause-built c =
    let circuit = c.args.circuit.now in
    let layout = layout_of circuit.elements in
    let hertz = circuit.options.defaultbasefrequency in
    let taps = c.replace.ensures ∙ c.as_slice.ensures in
    let closed = c.replace-in-Ok.ensures ∙ c.as_slice-in-Ok.ensures in
    let loads = c.replace-in-Ok-2.ensures ∙ c.as_slice-in-Ok-2.ensures in
    let settings :
    record { taps = c.replace.new.self; closed = c.replace-in-Ok.new.self; powers = c.replace-in-Ok-2.new.self }
    ≡ settings_of c.args.at.now c.args.powers.now =
    λ i. record { taps = taps i; closed = closed i; powers = loads i } in
    record {
      layout = ap (λ (v : BuiltView). v.layout) c.self.view_is ∙ c.requires.built.layout;
      settings = subst (AreSettings circuit.elements) (sym settings) c.requires.settings;
      stamps = stamps_again (devices_of circuit (settings_of c.args.at.now c.args.powers.now)) _ _ _ _ _
          c.in-Ok.ensures.extents (ap (λ (v : NetworkView). v.stamp) c.in-Ok.ensures.network)
          ∙ ap (λ (s : Settings). map device_stamp (devices_of circuit s)) (sym settings);
      kept = subst (λ (v : BuiltView). AreKept layout hertz circuit.elements v.kept) (sym c.self.view_is) c.requires.built.kept;
      reach = subst (Reaches layout hertz circuit.elements) (sym c.fill-filled.ensures.places)
          (subst (λ (v : BuiltView). Reaches layout hertz circuit.elements v.places) (sym c.self.view_is) c.requires.built.reach);
      room = ap (λ (v : BuiltView). v.room) c.self.view_is ∙ c.requires.built.room;
    }

-- no element is to blame where all are in range
pub returns-in-Ok-clause-no_blame : goal.returns-in-Ok-clause-no_blame
returns-in-Ok-clause-no_blame c =
    let ds = devices_of c.args.circuit.now (settings_of c.args.at.now c.args.powers.now) in
    no_blame c.args.circuit.now.elements ds (no_fault ds c.in-Ok.ensures.in_range)
