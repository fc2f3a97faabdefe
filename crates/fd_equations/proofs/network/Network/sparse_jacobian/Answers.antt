use Rattle.std.proofs.Common.{◌∙◌, ap}
use Rattle.std.proofs.lemmas.Result.{IfOk-weaker}
use Rattle.fd_mat.specs.fd_exact.States.{table}
use Rattle.fd_equations.specs.Matrices.{jacobian_amount}
use Rattle.fd_equations.specs.Rounded.{jacobian_entry}
use Rattle.fd_equations.proofs.WrittenOut.{own_size}
use Rattle.fd_equations.proofs.network.Network.sparse_jacobian.Goals as goal

pub returns-clause-entries : goal.returns-clause-entries
returns-clause-entries c =
    let v = c.args.self.now in
    let m = c.in_ok-jacobian.field-0 in
    let is = c.in_ok-jacobian.ensures in
    IfOk-weaker c.to_rows-2.result _ _
    (λ d h. h (jacobian_amount v c.args.x.now) (own_size v.size m (jacobian_amount v c.args.x.now) is)
    ∙ ap (λ n. table n n (jacobian_entry v c.args.x.now)) is.size)
    c.to_rows-2.ensures.entries

pub returns-clause-small : goal.returns-clause-small
returns-clause-small c =
    let v = c.args.self.now in
    IfOk-weaker c.to_rows-2.result _ _ (λ d h.
    h (jacobian_amount v c.args.x.now)
    (own_size v.size c.in_ok-jacobian.field-0 (jacobian_amount v c.args.x.now) c.in_ok-jacobian.ensures))
    c.to_rows-2.ensures.small
