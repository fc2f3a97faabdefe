use Rattle.fd_mat.proofs.Entries.{is_held}
use Rattle.fd_mat.proofs.sparse.SparseRows.held.Goals as goal

pub returns : goal.returns
returns c = rw c.as_slice.ensures.value (is_held c.self.inside.size c.self.inside.entries.items c.args.self.now c.self.view_is c.self.invariant)
