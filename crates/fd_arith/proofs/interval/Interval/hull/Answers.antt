use Rattle.std.proofs.Common.{subst, sym}
use Rattle.fd_arith.specs.Limits.{Fits}
use Rattle.fd_arith.specs.Enclosing.{hull_from}
use Rattle.fd_arith.proofs.SignedUnits.{least_held, greatest_held, least_fits, greatest_fits, as_ordered, ends_ordered}
use Rattle.fd_arith.proofs.interval.Interval.hull.Goals as goal

pub known-requires-clause-lower : goal.known-requires-clause-lower
known-requires-clause-lower g c =
    let p = c.in-Some.ensures.valid in
    let q = c.in-Some-ends.ensures.valid in
    subst Fits (sym (least_held _ _ p.0 q.0 _ c.min.ensures.value)) (least_fits _ _ p.0 q.0)

pub known-requires-clause-upper : goal.known-requires-clause-upper
known-requires-clause-upper g c =
    let p = c.in-Some.ensures.valid in
    let q = c.in-Some-ends.ensures.valid in
    subst Fits (sym (greatest_held _ _ p.1.0 q.1.0 _ c.max.ensures.value)) (greatest_fits _ _ p.1.0 q.1.0)

pub known-requires-clause-order : goal.known-requires-clause-order
known-requires-clause-order g c =
    let p = c.in-Some.ensures.valid in
    let q = c.in-Some-ends.ensures.valid in
    as_ordered _ _ _ _ (least_held _ _ p.0 q.0 _ c.min.ensures.value)
    (greatest_held _ _ p.1.0 q.1.0 _ c.max.ensures.value) (ends_ordered _ _ _ _ p.1.1)

pub returns : goal.returns
returns g c =
    let p = c.in-Some.ensures.valid in
    let q = c.in-Some-ends.ensures.valid in
    hull_from c.in-Some.ensures.ends c.in-Some-ends.ensures.ends c.known.ensures
    (least_held _ _ p.0 q.0 _ c.min.ensures.value) (greatest_held _ _ p.1.0 q.1.0 _ c.max.ensures.value)
