use Rattle.std.proofs.Common.{sym, subst}
use Rattle.fd_pages.specs.fd_outcome.Settles.{SettleEnd}
use Rattle.fd_daily.specs.fd_settle.declared.compute.ComputeFault.TheVariants as compute
use Rattle.fd_solving.specs.Endings.{IsEnding, ending_by_solver}
use Rattle.fd_solving.specs.Solving.{IsEndBy}
use Rattle.fd_solving.proofs.Tried.{end_failed}
use Rattle.fd_solving.proofs.faults.uncomputed.Goals as goal

pub returns-in_ok-unsolved-in-Solve-clause-tells : goal.returns-in_ok-unsolved-in-Solve-clause-tells
returns-in_ok-unsolved-in-Solve-clause-tells c v hour same n =
    let told = c.in_ok-unsolved-in-Solve.ensures.tells v hour same n in
    let end = end_failed c.of.result _ c.of.ensures.fault c.of.ensures.tried in
    rw c.in-Solve.is (λ tried.
    subst (λ (e : SettleEnd).
    IsEnding (ending_by_solver (compute.Solve c.in-Solve.fault)) (λ ending. IsEndBy v hour ending n e))
    (sym end) told)
