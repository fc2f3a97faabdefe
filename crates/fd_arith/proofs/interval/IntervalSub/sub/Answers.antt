use Rattle.fd_arith.specs.Enclosing.{difference_from}
use Rattle.fd_arith.proofs.SignedUnits.{difference_held, as_ordered, differences_ordered}
use Rattle.fd_arith.proofs.interval.IntervalSub.sub.Goals as goal

pub capped-requires : goal.capped-requires
capped-requires g c =
    let p = c.in-Some.ensures.valid in
    let q = c.in-Some-ends.ensures.valid in
    as_ordered _ _ _ _ (difference_held _ _ p.0 q.1.0) (difference_held _ _ p.1.0 q.0)
    (differences_ordered _ _ _ _ p.1.1 q.1.1)

pub returns : goal.returns
returns g c =
    let p = c.in-Some.ensures.valid in
    let q = c.in-Some-ends.ensures.valid in
    difference_from c.in-Some.ensures.ends c.in-Some-ends.ensures.ends c.capped.ensures
    (difference_held _ _ p.0 q.1.0) (difference_held _ _ p.1.0 q.0)
