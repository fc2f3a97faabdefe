use Rattle.std.proofs.Common.{◌*◌, ◌+◌, ◌<◌, ◌^◌, nat_abs, length, subst, FitsSigned, rules}
use Rattle.std.specs.Int.{w64}
use Rattle.std.proofs.lemmas.Int.{to_z-of_z}
use Rattle.fd_enclosure.specs.fd_exact.States.{part}
use Rattle.fd_enclosure.specs.Sound.{number_at}
use Rattle.fd_cert.proofs.RowTotals.{past_front}
use Rattle.fd_cert.proofs.bounds.plus_sizes.Goals as goal

pub returns-in-None : goal.returns-in-None
returns-in-None c =
    let k = c.loop-row.row in
    let f : FitsSigned w64 (part c.args.factors.now k) = search rules in
    past_front (λ l. nat_abs (part c.args.factors.now l) * number_at c.args.numbers.now l) k
    (length c.args.numbers.now) c.args.total c.loop-row.sum c.loop-row-test.true c.loop-row.invariant.sum
    (subst (λ z. 2 ^ 120 < c.loop-row.sum + nat_abs z * number_at c.args.numbers.now k)
    (to_z-of_z w64 (part c.args.factors.now k) f) c.in-None.ensures)
