use Rattle.std.proofs.Common.{subst, sym}
use Rattle.fd_outcome.specs.fd_sample.Circuits.{AreProbes}
use Rattle.fd_pages.proofs.records.settled_records.Goals as goal

pub add_taps-requires-clause-fit : goal.add_taps-requires-clause-fit
add_taps-requires-clause-fit c =
    let circuit = c.args.made.now.circuit.now in
    subst (AreProbes circuit.elements) (sym c.requires.probes)
    (c.probes_law.ensures circuit c.requires.printable.ready c.elements-elements.ensures.in_range
    c.elements-elements.ensures.keys)
