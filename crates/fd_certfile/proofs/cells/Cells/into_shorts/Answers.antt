use Rattle.std.proofs.Common.{List, ℤ, subst}
use Rattle.fd_certfile.specs.Cells.{AreNear}
use Rattle.fd_certfile.proofs.NearCells.{near_all}
use Rattle.fd_certfile.proofs.cells.Cells.into_shorts.Goals as goal

pub returns : goal.returns
returns c =
    subst (λ (xs : List ℤ). AreNear xs c.self.inside.shorts.items) c.self.view_is
    (near_all c.self.inside.shorts.items c.self.inside.longs.items c.self.invariant)
