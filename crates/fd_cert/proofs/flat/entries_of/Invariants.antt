use Rattle.fd_cert.specs.Entries.{IsFlat}
use Rattle.fd_cert.proofs.flat.entries_of.Given as goal

abbrev pub invariant-loop-row : goal.invariant-loop-row
invariant-loop-row l = IsFlat l.matrix l.entries.items l.row
