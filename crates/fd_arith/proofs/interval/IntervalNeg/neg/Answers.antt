use Rattle.std.proofs.Common.{subst, sym}
use Rattle.fd_arith.specs.Limits.{Fits}
use Rattle.fd_arith.specs.Enclosing.{negation_from}
use Rattle.fd_arith.proofs.SignedUnits.{negated_held, negated_fits, as_ordered, opposites_ordered}
use Rattle.fd_arith.proofs.interval.IntervalNeg.neg.Goals as goal

pub known-requires-clause-lower : goal.known-requires-clause-lower
known-requires-clause-lower g c =
    let hi = c.in-Some.ensures.valid.1.0 in
    subst Fits (sym (negated_held _ hi)) (negated_fits _ hi)

pub known-requires-clause-upper : goal.known-requires-clause-upper
known-requires-clause-upper g c =
    let lo = c.in-Some.ensures.valid.0 in
    subst Fits (sym (negated_held _ lo)) (negated_fits _ lo)

pub known-requires-clause-order : goal.known-requires-clause-order
known-requires-clause-order g c =
    let p = c.in-Some.ensures.valid in
    as_ordered _ _ _ _ (negated_held _ p.1.0) (negated_held _ p.0) (opposites_ordered _ _ p.1.1)

pub returns : goal.returns
returns g c =
    let p = c.in-Some.ensures.valid in
    negation_from c.in-Some.ensures.ends c.known.ensures (negated_held _ p.1.0) (negated_held _ p.0)
