use Rattle.std.proofs.Common.{subst}
use Rattle.std.proofs.lemmas.Result.{IfOk-weaker}
use Rattle.fd_equations.specs.Amounts.{of_both}
use Rattle.fd_equations.specs.Matrices.{IsMatrix, jacobian_amount}
use Rattle.fd_equations.specs.PartLoads.{slopes_there}
use Rattle.fd_pattern.specs.Views.{NetworkView}
use Rattle.fd_equations.proofs.network.Network.jacobian.Goals as goal

pub returns : goal.returns
returns c =
    let r = c.self.inside.rows.now in
    IfOk-weaker c.jacobian.result _ _ (λ m h. subst (λ (w : NetworkView). IsMatrix w.size m (jacobian_amount w c.args.x.now)) c.self.view_is
    (subst (λ n. IsMatrix n m (of_both r.terms (slopes_there c.args.x.now) r.loads)) c.self.invariant.1 h)) c.jacobian.ensures
