use Rattle.std.proofs.Common.{◌≡◌, ◌∙◌, ◌<◌, sym, subst, length, Some}
use Rattle.std.proofs.lemmas.Result.{IfOk-weaker}
use Rattle.fd_network.specs.dss_model.declared.names.Class.TheVariants as class
use Rattle.fd_network.specs.dss_layout.Layout.{Elements, LayoutView}
use Rattle.fd_network.specs.dss_circuit.Lookups.{element_given}
use Rattle.fd_network.specs.fd_devices.Settings.{tap_count}
use Rattle.fd_sample.specs.Circuits.{IsXfmrFor, element_at, place_given}
use Rattle.fd_sample.proofs.Places.{number_at, numbers_inside}
use Rattle.fd_sample.proofs.Standing.{place_inside, probe_in, xfmr_for}
use Rattle.fd_sample.proofs.circuit.regulator_probe_of.Goals as goal

pub probe_at-requires-clause-place : goal.probe_at-requires-clause-place
probe_at-requires-clause-place c =
    let es = c.args.circuit.now.elements in
    place_inside es c.args.layout.now c.in_ok-place.place c.requires.layout
    (subst (λ (xs : Elements). c.in_ok-place.place < length xs) c.elements-elements.ensures.entries c.in_ok-place.ensures.inside)

pub probe_at-requires-clause-element : goal.probe_at-requires-clause-element
probe_at-requires-clause-element c =
    let place = c.in_ok-place.place in
    let entries = c.elements-elements.ensures.entries in
    let e = c.element_in-element.result.now in
    let at = subst (λ (xs : Elements). element_at xs place ≡ Some e) entries c.element_in-element.ensures in
    let same =
    subst (λ (xs : Elements). element_at xs place ≡ element_given xs class.Transformer c.args.control.now.transformer)
    entries c.in_ok-place.ensures.there in
    subst (λ (l : LayoutView). IsXfmrFor l place c.args.control.now e) (sym c.requires.layout)
    (xfmr_for c.args.circuit.now c.requires.ready c.elements-elements.ensures.in_range
    c.elements-elements.ensures.keys c.args.control.now c.requires.control place e at same)

pub transformers_before-number-requires : goal.transformers_before-number-requires
transformers_before-number-requires c =
    numbers_inside tap_count _ c.args.circuit.now.elements c.in_ok-place.place c.requires.numbers.transformers
    (subst (λ (xs : Elements). c.in_ok-place.place < length xs) c.elements-elements.ensures.entries c.in_ok-place.ensures.inside)

pub returns-clause-probe : goal.returns-clause-probe
returns-clause-probe c =
    let place = c.in_ok-place.place in
    let entries = c.elements-elements.ensures.entries in
    let e = c.element_in-element.result.now in
    let at = subst (λ (xs : Elements). element_at xs place ≡ Some e) entries c.element_in-element.ensures in
    let same =
    subst (λ (xs : Elements). element_at xs place ≡ element_given xs class.Transformer c.args.control.now.transformer)
    entries c.in_ok-place.ensures.there in
    let found = subst (λ (xs : Elements). place_given xs class.Transformer c.args.control.now.transformer ≡ Some place) entries c.in_ok-place.ensures.place in
    let inside = subst (λ (xs : Elements). place < length xs) entries c.in_ok-place.ensures.inside in
    let count = c.transformers_before-number.ensures ∙ number_at tap_count _ c.args.circuit.now.elements place c.requires.numbers.transformers inside in
    let fit = xfmr_for c.args.circuit.now c.requires.ready c.elements-elements.ensures.in_range
    c.elements-elements.ensures.keys c.args.control.now c.requires.control place e at same in
    IfOk-weaker c.probe_at.result _ _ (λ p h.
    probe_in c.args.circuit.now c.args.control.now place c.args.layout.now e _ p c.requires.layout fit at found count
    h)
    c.probe_at.ensures.probe
