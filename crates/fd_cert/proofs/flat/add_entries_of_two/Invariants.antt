use Rattle.fd_cert.proofs.FlatSums.{AreAdded}
use Rattle.fd_cert.proofs.flat.add_entries_of_two.Given as goal

abbrev pub invariant-loop-entry : goal.invariant-loop-entry
invariant-loop-entry l = record {
  sums : AreAdded l.first l.entries l.initial.sums l.sums l.entry-index;
  others : AreAdded l.second l.entries l.initial.others l.others l.entry-index;
}
