use Rattle.std.proofs.Common.{sym}
use Rattle.std.proofs.lemmas.Int.{to_z-of_z}
use Rattle.fd_cert.proofs.Units.{product_past}
use Rattle.fd_cert.proofs.sums.product.Goals as goal

pub returns-in-None : goal.returns-in-None
returns-in-None c =
    let fa = c.ranges.factor in
    let fb = c.ranges.entry in
    let past = simp to_z-of_z at c.in-None.ensures in
    sym (product_past c.args.factor c.args.entry past)
