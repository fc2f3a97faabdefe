use Rattle.fd_cert.proofs.Units.{IsSummed}
use Rattle.fd_cert.proofs.sums.column_sums.Given as goal

abbrev pub invariant-loop-row : goal.invariant-loop-row
invariant-loop-row l = IsSummed l.matrix l.factors l.sums l.row
