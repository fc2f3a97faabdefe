use Rattle.std.proofs.Common.{subst}
use Rattle.std.proofs.lemmas.Result.{IfOk-weaker}
use Rattle.fd_equations.specs.Amounts.{of_both}
use Rattle.fd_equations.specs.Matrices.{IsMatrix, start_amount}
use Rattle.fd_equations.specs.PartLoads.{start_slopes}
use Rattle.fd_pattern.specs.Views.{NetworkView}
use Rattle.fd_equations.proofs.network.Network.start.Goals as goal

pub returns : goal.returns
returns c =
    let r = c.self.inside.rows.now in
    IfOk-weaker c.start.result _ _ (λ m is.
    subst (λ (w : NetworkView). IsMatrix w.size m (start_amount w)) c.self.view_is
    (subst (λ n. IsMatrix n m (of_both r.terms (λ u. start_slopes u.load) r.loads)) c.self.invariant.1 is))
    c.start.ensures
