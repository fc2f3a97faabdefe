use Rattle.std.proofs.Common.{sym, subst}
use Rattle.fd_arith.specs.fd_exact.States.{entry}
use Rattle.fd_inverse.specs.Running.{IsStart}
use Rattle.fd_inverse.proofs.Inverses.{answers}
use Rattle.fd_inverse.proofs.elimination.invert_rows.Goals as goal

pub returns : goal.returns
returns c =
    let size = sym c.size-size.ensures in
    let start = subst (λ n. IsStart (entry c.args.a.now) n c.in_ok-cells.cells.items) size c.in_ok-cells.ensures.cells in
    let a = answers c.args.a.now c.inverse_from.result (c.inverse_from.ensures c.args.a.now size start) in
    record { inverse = a.inverse; fault = a.fault; size = a.size; small = a.small; column = a.column }
