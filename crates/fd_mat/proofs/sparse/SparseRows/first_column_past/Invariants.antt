use Rattle.fd_mat.proofs.Entries.{AreWithin}
use Rattle.fd_mat.proofs.sparse.SparseRows.first_column_past.Given as goal

abbrev pub invariant-loop-held : goal.invariant-loop-held
invariant-loop-held l = AreWithin l.size l.fn.limit l.held-index l.least l.held-items
