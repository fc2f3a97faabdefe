use Rattle.std.proofs.Common.{subst, sym}
use Rattle.dss_ready.specs.dss_layout.Layout.{layout_of}
use Rattle.fd_devices.specs.Settings.{settings_of}
use Rattle.fd_network.specs.Keeping.{Reaches}
use Rattle.fd_network.proofs.Filling.{reaches}
use Rattle.fd_network.proofs.network.assembled.Goals as goal

pub fill-requires-clause-reach : goal.fill-requires-clause-reach
fill-requires-clause-reach c =
    let circuit = c.args.circuit.now in
    reaches (layout_of circuit.elements) circuit.options.defaultbasefrequency circuit.elements
    (settings_of c.args.at.now c.args.powers.now) c.in_ok-parts.parts.rows.places c.in_ok-kept.field-0.places.items
    c.in_ok-kept.ensures.places c.in_ok-parts.ensures.places

pub returns-clause-reach : goal.returns-clause-reach
returns-clause-reach c =
    let circuit = c.args.circuit.now in
    let layout = layout_of circuit.elements in
    let hertz = circuit.options.defaultbasefrequency in
    subst (Reaches layout hertz circuit.elements) (sym c.fill.ensures.places)
    (reaches layout hertz circuit.elements (settings_of c.args.at.now c.args.powers.now) c.in_ok-parts.parts.rows.places
    c.in_ok-kept.field-0.places.items c.in_ok-kept.ensures.places c.in_ok-parts.ensures.places)
