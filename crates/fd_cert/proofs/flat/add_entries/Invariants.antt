use Rattle.fd_cert.proofs.FlatSums.{AreAdded}
use Rattle.fd_cert.proofs.flat.add_entries.Given as goal

abbrev pub invariant-loop-entry : goal.invariant-loop-entry
invariant-loop-entry l = AreAdded l.factors l.entries l.initial.sums l.sums l.entry-index
