use Rattle.std.proofs.Common.{◌≡◌, subst, Some}
use Rattle.fd_network.specs.dss_layout.Layout.{Elements}
use Rattle.fd_sample.specs.Circuits.{element_at}
use Rattle.fd_sample.proofs.Standing.{capcontrol_in, regcontrol_in}
use Rattle.fd_sample.proofs.circuit.probe_at_place.Goals as goal

pub regulator_probe_of-requires-clause-control : goal.regulator_probe_of-requires-clause-control
regulator_probe_of-requires-clause-control c =
    let place = c.args.place in
    let e = c.element_in-element.result.now in
    let at = subst (λ (xs : Elements). element_at xs place ≡ Some e) c.elements-elements.ensures.entries c.element_in-element.ensures in
    regcontrol_in c.args.circuit.now c.requires.ready c.elements-elements.ensures.in_range place e c.in-RegControl.control at c.in-RegControl.is

pub bank_probe_of-requires-clause-control : goal.bank_probe_of-requires-clause-control
bank_probe_of-requires-clause-control c =
    let place = c.args.place in
    let e = c.element_in-element.result.now in
    let at = subst (λ (xs : Elements). element_at xs place ≡ Some e) c.elements-elements.ensures.entries c.element_in-element.ensures in
    capcontrol_in c.args.circuit.now c.requires.ready c.elements-elements.ensures.in_range place e c.in-CapControl.control at c.in-CapControl.is
