use Rattle.std.proofs.Common.{rules, arith, nat_abs, FitsSigned}
use Rattle.std.specs.Int.{w128, cast_signed, cast_unsigned}
use Rattle.std.proofs.lemmas.Int.{ints}
use Rattle.fd_system.proofs.Intervals.{mismatch_held}
use Rattle.fd_system.proofs.rows.greater_size.Goals as goal

pub returns-then-low-high-clause-within : goal.returns-then-low-high-clause-within
returns-then-low-high-clause-within c =
    let lo = c.in_ok-lo.lo in
    let hi = c.in_ok-lo.hi in
    let m = nat_abs (cast_signed w128 (cast_unsigned w128 c.size-high.result)) in
    let fl : FitsSigned w128 lo = search rules in
    let fh : FitsSigned w128 hi = search rules in
    let f = c.size-low.ensures.size in
    let g = c.size-high.ensures.size in
    let t = c.if-low-high.true in
    mismatch_held c.args.row lo hi m c.in_ok-lo.ensures.ends (omega (arith, ints)) (omega (arith, ints))

pub returns-else-low-high-clause-within : goal.returns-else-low-high-clause-within
returns-else-low-high-clause-within c =
    let lo = c.in_ok-lo.lo in
    let hi = c.in_ok-lo.hi in
    let m = nat_abs (cast_signed w128 (cast_unsigned w128 c.size-low.result)) in
    let fl : FitsSigned w128 lo = search rules in
    let fh : FitsSigned w128 hi = search rules in
    let f = c.size-low.ensures.size in
    let g = c.size-high.ensures.size in
    let t = c.if-low-high.false in
    mismatch_held c.args.row lo hi m c.in_ok-lo.ensures.ends (omega (arith, ints)) (omega (arith, ints))
