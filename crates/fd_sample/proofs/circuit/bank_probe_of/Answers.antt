use Rattle.std.proofs.Common.{◌≡◌, ◌∙◌, ◌<◌, sym, subst, length, Some}
use Rattle.std.proofs.lemmas.Result.{IfOk-weaker}
use Rattle.fd_network.specs.dss_model.declared.names.Class.TheVariants as class
use Rattle.fd_network.specs.dss_layout.Layout.{Elements, LayoutView}
use Rattle.fd_network.specs.dss_circuit.Lookups.{element_given}
use Rattle.fd_network.specs.fd_devices.Settings.{bank_count}
use Rattle.fd_sample.specs.Circuits.{IsLineFor, element_at, place_given}
use Rattle.fd_sample.proofs.Places.{number_at, numbers_inside}
use Rattle.fd_sample.proofs.Standing.{place_inside, cap_probe_in, line_for}
use Rattle.fd_sample.proofs.circuit.bank_probe_of.Goals as goal

pub bank_probe_at-requires-clause-place : goal.bank_probe_at-requires-clause-place
bank_probe_at-requires-clause-place c =
    let es = c.args.circuit.now.elements in
    place_inside es c.args.layout.now c.in_ok-place.place c.requires.layout
    (subst (λ (xs : Elements). c.in_ok-place.place < length xs) c.elements-elements.ensures.entries c.in_ok-place.ensures.inside)

pub bank_probe_at-requires-clause-element : goal.bank_probe_at-requires-clause-element
bank_probe_at-requires-clause-element c =
    let place = c.in_ok-place.place in
    let entries = c.elements-elements.ensures.entries in
    let e = c.element_in-element.result.now in
    let at = subst (λ (xs : Elements). element_at xs place ≡ Some e) entries c.element_in-element.ensures in
    let same = subst (λ (xs : Elements). element_at xs place ≡ element_given xs class.Line c.args.control.now.element) entries c.in_ok-place.ensures.there in
    subst (λ (l : LayoutView). IsLineFor l place c.args.control.now e) (sym c.requires.layout)
    (line_for c.args.circuit.now c.requires.ready c.elements-elements.ensures.in_range
    c.elements-elements.ensures.keys c.args.control.now c.requires.control place e at same)

pub banks_before-number-requires : goal.banks_before-number-requires
banks_before-number-requires c =
    numbers_inside bank_count _ c.args.circuit.now.elements c.in_ok-bank.bank c.requires.numbers.banks
    (subst (λ (xs : Elements). c.in_ok-bank.bank < length xs) c.elements-elements.ensures.entries c.in_ok-bank.ensures.inside)

pub returns-clause-probe : goal.returns-clause-probe
returns-clause-probe c =
    let place = c.in_ok-place.place in
    let entries = c.elements-elements.ensures.entries in
    let e = c.element_in-element.result.now in
    let at = subst (λ (xs : Elements). element_at xs place ≡ Some e) entries c.element_in-element.ensures in
    let same = subst (λ (xs : Elements). element_at xs place ≡ element_given xs class.Line c.args.control.now.element) entries c.in_ok-place.ensures.there in
    let found = subst (λ (xs : Elements). place_given xs class.Line c.args.control.now.element ≡ Some place) entries c.in_ok-place.ensures.place in
    let bank_found =
    subst (λ (xs : Elements). place_given xs class.Capacitor c.args.control.now.capacitor ≡ Some c.in_ok-bank.bank)
    entries c.in_ok-bank.ensures.place in
    let inside = subst (λ (xs : Elements). c.in_ok-bank.bank < length xs) entries c.in_ok-bank.ensures.inside in
    let count = c.banks_before-number.ensures ∙ number_at bank_count _ c.args.circuit.now.elements c.in_ok-bank.bank c.requires.numbers.banks inside in
    let fit = line_for c.args.circuit.now c.requires.ready c.elements-elements.ensures.in_range
    c.elements-elements.ensures.keys c.args.control.now c.requires.control place e at same in
    IfOk-weaker c.bank_probe_at.result _ _ (λ p h.
    cap_probe_in c.args.circuit.now c.args.control.now place c.in_ok-bank.bank c.args.layout.now e _ p
    c.requires.layout fit at found bank_found count h)
    c.bank_probe_at.ensures.probe
