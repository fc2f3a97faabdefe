use Rattle.std.proofs.Common.{◌∙◌, ap, subst}
use Rattle.std.proofs.lemmas.Result.{IfOk-weaker}
use Rattle.fd_pattern.specs.Conditions.{IsNetwork}
use Rattle.fd_equations.specs.Rounded.{constant_sum, list_of}
use Rattle.fd_equations.proofs.Networks.{constants_small}
use Rattle.fd_equations.proofs.network.Network.constants.Goals as goal

pub returns-clause-small : goal.returns-clause-small
returns-clause-small c =
    let n = subst IsNetwork c.self.view_is c.self.invariant.0 in
    let cs = ap (λ v. v.stamp.constants) c.self.view_is in
    IfOk-weaker c.constant_sums.result _ _ (λ rows e.
    constants_small c.args.self.now n rows.items (e ∙ (λ i. list_of (c.size.ensures.size i) (constant_sum (cs i)))))
    c.constant_sums.ensures
