use Rattle.std.proofs.Common.{◌*◌, ◌^◌, nat_abs, ap, sym, subst}
use Rattle.fd_enclosure.specs.fd_arith.Wide.{wide_quotient}
use Rattle.fd_cert.specs.Totals.{IsTotal}
use Rattle.fd_cert.proofs.RowTotals.{past_none}
use Rattle.fd_cert.proofs.bounds.over_weight.Goals as goal

pub returns-in-None : goal.returns-in-None
returns-in-None c = λ k h. sym (ap (λ o. wide_quotient o (nat_abs c.args.weight * 2 ^ 40)) (past_none k (subst (IsTotal k) c.in-None.is h)))
