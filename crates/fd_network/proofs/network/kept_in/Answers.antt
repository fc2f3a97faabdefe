use Rattle.std.specs.List.{flat_map}
use Rattle.fd_devices.specs.Reach.{device_places}
use Rattle.std.proofs.Common.{◌∙◌, ◌<◌, length, ap, subst, sym, arith}
use Rattle.dss_ready.specs.dss_model.declared.options.Options.{Options}
use Rattle.fd_devices.specs.Scripted.{devices_from, devices_of}
use Rattle.fd_devices.specs.Settings.{settings_of, settings_in}
use Rattle.fd_devices.proofs.CallerLemmas.{devices_length}
use Rattle.fd_network.specs.Faults.{first_out_of_range}
use Rattle.fd_network.proofs.Building.{are_taken, fault_named, kept_as, out_of_range_within, same_devices, taken_as}
use Rattle.fd_network.proofs.ReadyElements.{ready}
use Rattle.fd_network.proofs.Assembling.{own_first}
use Rattle.fd_network.proofs.network.kept_in.Goals as goal

pub keep-requires-clause-taken : goal.keep-requires-clause-taken
keep-requires-clause-taken c =
    let circuit = c.args.circuit.now in
    let hertz = circuit.options.defaultbasefrequency in
    let is_ready = ready circuit c.requires.ready c.elements-elements.ensures.in_range in
    let taken = are_taken hertz circuit.elements (settings_of c.args.at.now c.args.powers.now)
    c.options.ensures.in_range.defaultbasefrequency c.requires.ready.not_many is_ready c.requires.settings
    c.requires.within c.requires.modest in
    taken_as c.args.layout.now _ c.options.result.now.defaultbasefrequency hertz
    c.elements-elements.result.now.entries circuit.elements (settings_in c.of-settings.result) _ c.requires.layout
    (ap (λ (o : Options). o.defaultbasefrequency) c.options.ensures.value) c.elements-elements.ensures.entries
    c.of-settings.ensures taken

pub keep-requires-clause-few : goal.keep-requires-clause-few
keep-requires-clause-few c = omega (arith, ap length c.elements-elements.ensures.entries, c.elements-elements.ensures.few)

pub returns-in-Ok-clause-kept : goal.returns-in-Ok-clause-kept
returns-in-Ok-clause-kept c =
    kept_as _ c.args.layout.now _ c.options.result.now.defaultbasefrequency _ c.elements-elements.result.now.entries
    c.in-Ok.made.kept.items
    (sym c.requires.layout) (sym (ap (λ (o : Options). o.defaultbasefrequency) c.options.ensures.value))
    (sym c.elements-elements.ensures.entries) c.in-Ok.ensures.kept

pub returns-in-Ok-clause-places : goal.returns-in-Ok-clause-places
returns-in-Ok-clause-places c =
    let hertz = ap (λ (o : Options). o.defaultbasefrequency) c.options.ensures.value in
    let same = same_devices c.args.layout.now _ c.options.result.now.defaultbasefrequency _
    c.elements-elements.result.now.entries _ (settings_in c.of-settings.result) _ c.requires.layout hertz
    c.elements-elements.ensures.entries c.of-settings.ensures in
    c.in-Ok.ensures.places ∙ ap (flat_map device_places) same

pub blamed-requires : goal.blamed-requires
blamed-requires c =
    let es = c.elements-elements.result.now.entries in
    let layout = c.args.layout.now in
    let hertz = c.options.result.now.defaultbasefrequency in
    let settings = settings_in c.of-settings.result in
    let first = rw c.in-Err-OutOfRange.field-0-is at c.in-Err-OutOfRange.ensures.fault in
    let low = out_of_range_within (devices_from layout hertz 0 es settings) c.in-Err-OutOfRange.place
    (own_first (devices_from layout hertz 0 es settings) c.in-Err-OutOfRange.place first) in
    subst (λ n. c.in-Err-OutOfRange.place < n) (devices_length layout hertz 0 es settings) low

pub returns-in-Err-OutOfRange-clause-fault : goal.returns-in-Err-OutOfRange-clause-fault
returns-in-Err-OutOfRange-clause-fault c =
    let circuit = c.args.circuit.now in
    let hertz = ap (λ (o : Options). o.defaultbasefrequency) c.options.ensures.value in
    let same = same_devices c.args.layout.now _ c.options.result.now.defaultbasefrequency _
    c.elements-elements.result.now.entries _ (settings_in c.of-settings.result) _ c.requires.layout hertz
    c.elements-elements.ensures.entries c.of-settings.ensures in
    let ds = devices_from c.args.layout.now c.options.result.now.defaultbasefrequency 0
    c.elements-elements.result.now.entries (settings_in c.of-settings.result) in
    let first = rw c.in-Err-OutOfRange.field-0-is at c.in-Err-OutOfRange.ensures.fault in
    fault_named circuit.elements c.elements-elements.result.now.entries
    (devices_of circuit (settings_of c.args.at.now c.args.powers.now)) c.in-Err-OutOfRange.place c.blamed.result
    c.elements-elements.ensures.entries
    (ap first_out_of_range (sym same) ∙ own_first ds c.in-Err-OutOfRange.place first) c.blamed.ensures
