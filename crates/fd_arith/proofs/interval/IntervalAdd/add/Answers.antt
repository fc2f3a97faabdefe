use Rattle.fd_arith.specs.Enclosing.{sum_from}
use Rattle.fd_arith.proofs.SignedUnits.{sum_held, as_ordered, sums_ordered}
use Rattle.fd_arith.proofs.interval.IntervalAdd.add.Goals as goal

pub capped-requires : goal.capped-requires
capped-requires g c =
    let p = c.in-Some.ensures.valid in
    let q = c.in-Some-ends.ensures.valid in
    as_ordered _ _ _ _ (sum_held _ _ p.0 q.0) (sum_held _ _ p.1.0 q.1.0) (sums_ordered _ _ _ _ p.1.1 q.1.1)

pub returns : goal.returns
returns g c =
    let p = c.in-Some.ensures.valid in
    let q = c.in-Some-ends.ensures.valid in
    sum_from c.in-Some.ensures.ends c.in-Some-ends.ensures.ends c.capped.ensures (sum_held _ _ p.0 q.0)
    (sum_held _ _ p.1.0 q.1.0)
