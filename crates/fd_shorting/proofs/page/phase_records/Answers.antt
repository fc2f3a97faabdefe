use Rattle.std.proofs.Common.{◌≡◌, ◌-◌, Some, slice_get, rules}
use Rattle.fd_shorting.proofs.Fitted.{buses_fit}
use Rattle.fd_shorting.proofs.page.phase_records.Goals as goal

pub element_records-requires-clause-fits : goal.element_records-requires-clause-fits
element_records-requires-clause-fits c =
    let here : slice_get c.args.made.now.circuit.now.elements (c.len-place.result - 1)
    ≡ Some (c.unwrap.result.0.now, c.unwrap.result.1.now) = search rules in
    buses_fit c.args.made.now.circuit.now c.requires.ready
    (c.len-place.result - 1) c.unwrap.result.0.now c.unwrap.result.1.now here
