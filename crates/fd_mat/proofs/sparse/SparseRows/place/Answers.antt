use Rattle.std.proofs.Common.{◌+◌, ◌*◌, ap}
use Rattle.fd_mat.proofs.Entries.{size_held}
use Rattle.fd_mat.proofs.sparse.SparseRows.place.Goals as goal

pub returns : goal.returns
returns c =
    ap (λ n. c.args.row * n + c.args.col)
    (size_held c.self.inside.size c.self.inside.entries.items c.args.self.now c.self.view_is)
