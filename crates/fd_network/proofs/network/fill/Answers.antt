use Rattle.std.proofs.Common.{◌≡◌, ℕ, Option, None, Some, ◌∙◌, ◌*◌, ◌<◌, ◌≤◌, length, ap, subst, sym, arith}
use Rattle.dss_ready.specs.dss_model.declared.options.Options.{Options}
use Rattle.fd_devices.specs.Devices.{AgreesWith, parts_of_all}
use Rattle.fd_devices.specs.Scripted.{devices_from, devices_of}
use Rattle.fd_devices.specs.Settings.{settings_of, settings_in}
use Rattle.fd_devices.proofs.CallerLemmas.{devices_length}
use Rattle.fd_network.specs.Assembled.{HaveRoom, parts_network}
use Rattle.fd_network.specs.Keeping.{room_for}
use Rattle.fd_network.specs.Stamps.{extents_of}
use Rattle.fd_network.specs.Faults.{first_out_of_range}
use Rattle.dss_ready.specs.dss_layout.Limits.{most_complex, most_magnitudes}
use Rattle.dss_ready.specs.dss_layout.Layout.{LayoutView, complex_count, layout_of}
use Rattle.dss_ready.proofs.CallerLemmas.dss_layout.{few_complex, few_magnitudes}
use Rattle.fd_network.specs.Places.{AreMagnitudesFrom}
use Rattle.fd_network.proofs.Apart.{magnitudes_follow}
use Rattle.fd_network.proofs.Building.{are_taken, fault_named, kept_as, out_of_range_within, reaches_as, same_devices, taken_as}
use Rattle.fd_network.proofs.Before.{former_as}
use Rattle.fd_network.proofs.ReadyElements.{few_branches, ready}
use Rattle.fd_network.proofs.Assembling.{no_fault}
use Rattle.fd_network.proofs.network.fill.Goals as goal

none_or_some : (o : Option ℕ) (k : ℕ) → o ≡ None → o ≡ Some k → ⊥
none_or_some None k e f = cc
none_or_some (Some x) k e f = cc

pub assemble-requires-clause-taken : goal.assemble-requires-clause-taken
assemble-requires-clause-taken c =
    let circuit = c.args.circuit.now in
    let hertz = circuit.options.defaultbasefrequency in
    let is_ready = ready circuit c.requires.ready c.elements-elements.ensures.in_range in
    let taken = are_taken hertz circuit.elements (settings_of c.args.at.now c.args.powers.now)
    c.options.ensures.in_range.defaultbasefrequency c.requires.ready.not_many is_ready c.requires.settings
    c.requires.within c.requires.modest in
    taken_as c.args.layout.now _ c.options.result.now.defaultbasefrequency hertz
    c.elements-elements.result.now.entries circuit.elements (settings_in c.of-settings.result) _ c.requires.layout
    (ap (λ (o : Options). o.defaultbasefrequency) c.options.ensures.value) c.elements-elements.ensures.entries
    c.of-settings.ensures taken

pub assemble-requires-clause-magnitudes : goal.assemble-requires-clause-magnitudes
assemble-requires-clause-magnitudes c =
    let layout = c.requires.layout in
    let es = c.elements-elements.ensures.entries in
    subst (λ l. AreMagnitudesFrom l (2 * complex_count l) 0 c.elements-elements.result.now.entries) (sym layout)
    (subst (AreMagnitudesFrom (layout_of c.args.circuit.now.elements)
    (2 * complex_count (layout_of c.args.circuit.now.elements)) 0)
    (sym es) (magnitudes_follow c.args.circuit.now.elements))

pub assemble-requires-clause-few : goal.assemble-requires-clause-few
assemble-requires-clause-few c = omega (arith, ap length c.elements-elements.ensures.entries, c.elements-elements.ensures.few)

pub assemble-requires-clause-few_branches : goal.assemble-requires-clause-few_branches
assemble-requires-clause-few_branches c = rw c.elements-elements.ensures.entries (few_branches c.args.circuit.now.elements c.requires.ready.not_many)

pub returns-in-Ok-clause-agrees : goal.returns-in-Ok-clause-agrees
returns-in-Ok-clause-agrees c =
    let hertz = ap (λ (o : Options). o.defaultbasefrequency) c.options.ensures.value in
    let same = same_devices c.args.layout.now _ c.options.result.now.defaultbasefrequency _
    c.elements-elements.result.now.entries _ (settings_in c.of-settings.result) _ c.requires.layout hertz
    c.elements-elements.ensures.entries c.of-settings.ensures in
    subst (λ ds. AgreesWith (parts_network c.args.layout.now c.assemble.new.parts).stamp (parts_of_all ds)) same c.in-Ok.ensures.agrees

pub returns-in-Ok-clause-extents : goal.returns-in-Ok-clause-extents
returns-in-Ok-clause-extents c =
    let hertz = ap (λ (o : Options). o.defaultbasefrequency) c.options.ensures.value in
    let same = same_devices c.args.layout.now _ c.options.result.now.defaultbasefrequency _ c.elements-elements.result.now.entries _
    (settings_in c.of-settings.result) _ c.requires.layout hertz c.elements-elements.ensures.entries c.of-settings.ensures in
    c.in-Ok.ensures.extents ∙ ap extents_of same

pub blamed-requires : goal.blamed-requires
blamed-requires c =
    let es = c.elements-elements.result.now.entries in
    let layout = c.args.layout.now in
    let hertz = c.options.result.now.defaultbasefrequency in
    let settings = settings_in c.of-settings.result in
    let low = out_of_range_within (devices_from layout hertz 0 es settings) c.in-Err.fault.0 c.in-Err.ensures.fault in
    subst (λ n. c.in-Err.fault.0 < n) (devices_length layout hertz 0 es settings) low

pub returns-in-Err-clause-fault : goal.returns-in-Err-clause-fault
returns-in-Err-clause-fault c =
    let circuit = c.args.circuit.now in
    let hertz = ap (λ (o : Options). o.defaultbasefrequency) c.options.ensures.value in
    let same = same_devices c.args.layout.now _ c.options.result.now.defaultbasefrequency _
    c.elements-elements.result.now.entries _ (settings_in c.of-settings.result) _ c.requires.layout hertz
    c.elements-elements.ensures.entries c.of-settings.ensures in
    fault_named circuit.elements c.elements-elements.result.now.entries
    (devices_of circuit (settings_of c.args.at.now c.args.powers.now)) c.in-Err.fault.0 c.blamed.result
    c.elements-elements.ensures.entries (ap first_out_of_range (sym same) ∙ c.in-Err.ensures.fault) c.blamed.ensures

pub returns-in-Err-clause-ok : goal.returns-in-Err-clause-ok
returns-in-Err-clause-ok c =
    let circuit = c.args.circuit.now in
    let hertz = ap (λ (o : Options). o.defaultbasefrequency) c.options.ensures.value in
    let same = same_devices c.args.layout.now _ c.options.result.now.defaultbasefrequency _
    c.elements-elements.result.now.entries _ (settings_in c.of-settings.result) _ c.requires.layout hertz
    c.elements-elements.ensures.entries c.of-settings.ensures in
    λ in_range.
    absurd (none_or_some _ c.in-Err.fault.0
    (no_fault (devices_of circuit (settings_of c.args.at.now c.args.powers.now)) in_range)
    (ap first_out_of_range (sym same) ∙ c.in-Err.ensures.fault))

pub assemble-requires-clause-kept : goal.assemble-requires-clause-kept
assemble-requires-clause-kept c =
    kept_as c.args.layout.now _ c.options.result.now.defaultbasefrequency _ c.elements-elements.result.now.entries _ c.args.kept.now
    c.requires.layout (ap (λ (o : Options). o.defaultbasefrequency) c.options.ensures.value) c.elements-elements.ensures.entries c.requires.kept

pub assemble-requires-clause-reaches : goal.assemble-requires-clause-reaches
assemble-requires-clause-reaches c =
    reaches_as c.args.layout.now _ c.options.result.now.defaultbasefrequency _ c.elements-elements.result.now.entries _ c.args.parts.now.rows.places
    c.requires.layout (ap (λ (o : Options). o.defaultbasefrequency) c.options.ensures.value) c.elements-elements.ensures.entries c.requires.reach

pub assemble-requires-clause-before : goal.assemble-requires-clause-before
assemble-requires-clause-before c =
    former_as c.args.layout.now _ c.options.result.now.defaultbasefrequency _ c.elements-elements.result.now.entries _ c.args.parts.now c.args.before
    c.requires.layout (ap (λ (o : Options). o.defaultbasefrequency) c.options.ensures.value) c.elements-elements.ensures.entries c.requires.before

pub assemble-requires-clause-room : goal.assemble-requires-clause-room
assemble-requires-clause-room c =
    subst (λ es. HaveRoom (room_for es) c.args.parts.now c.args.lists.now) (sym c.elements-elements.ensures.entries)
    c.requires.room

pub assemble-requires-clause-few_complexes : goal.assemble-requires-clause-few_complexes
assemble-requires-clause-few_complexes c =
    subst (λ (l : LayoutView). complex_count l ≤ most_complex) (sym c.requires.layout)
    (few_complex c.args.circuit.now.elements c.requires.ready.not_many)

pub assemble-requires-clause-few_magnitudes : goal.assemble-requires-clause-few_magnitudes
assemble-requires-clause-few_magnitudes c =
    subst (λ (l : LayoutView). length l.magnitudes ≤ most_magnitudes) (sym c.requires.layout)
    (few_magnitudes c.args.circuit.now.elements c.requires.ready.not_many)
