use Rattle.std.proofs.Common.{◌∙◌, ap}
use Rattle.std.proofs.lemmas.Result.{IfOk-weaker}
use Rattle.fd_mat.specs.fd_exact.States.{table}
use Rattle.fd_equations.specs.Matrices.{start_amount}
use Rattle.fd_equations.specs.Rounded.{start_entry}
use Rattle.fd_equations.proofs.WrittenOut.{own_size}
use Rattle.fd_equations.proofs.network.Network.sparse_start.Goals as goal

pub returns-clause-entries : goal.returns-clause-entries
returns-clause-entries c =
    let v = c.args.self.now in
    let is = c.in_ok-start.ensures in
    IfOk-weaker c.to_rows-2.result _ _
    (λ d h. h (start_amount v) (own_size v.size c.in_ok-start.field-0 (start_amount v) is) ∙ ap (λ n. table n n (start_entry v)) is.size)
    c.to_rows-2.ensures.entries

pub returns-clause-small : goal.returns-clause-small
returns-clause-small c =
    let v = c.args.self.now in
    IfOk-weaker c.to_rows-2.result _ _
    (λ d h. h (start_amount v) (own_size v.size c.in_ok-start.field-0 (start_amount v) c.in_ok-start.ensures))
    c.to_rows-2.ensures.small
