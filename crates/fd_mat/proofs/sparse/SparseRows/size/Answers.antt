use Rattle.fd_mat.proofs.Entries.{size_held}
use Rattle.fd_mat.proofs.sparse.SparseRows.size.Goals as goal

pub returns : goal.returns
returns c = size_held c.self.inside.size c.self.inside.entries.items c.args.self.now c.self.view_is
