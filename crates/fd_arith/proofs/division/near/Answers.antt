use Rattle.std.proofs.Common.{◌≤◌, ◌^◌, arith}
use Rattle.std.proofs.lemmas.Int.{ints}
use Rattle.fd_arith.specs.Limits.{Fits}
use Rattle.fd_arith.specs.Nearest.{nearest_past, nearest_within, signed_fits}
use Rattle.fd_arith.proofs.division.near.Goals as goal

pub returns-then-size-clause-units : goal.returns-then-size-clause-units
returns-then-size-clause-units c =
    nearest_past c.args.division.now.quotient c.args.division.now.rest c.args.d c.rounded_near-size.result
    c.requires.rest c.rounded_near-size.ensures.down c.rounded_near-size.ensures.up c.args.negative
    (omega (arith, ints))

pub returns-clause-units : goal.returns-clause-units
returns-clause-units c =
    let small : c.rounded_near-size.result ≤ 2 ^ 120 = omega (arith, ints) in
    let fits : Fits c.with_sign.result =
    signed_fits c.args.division.now.quotient c.args.division.now.rest c.args.d c.rounded_near-size.result
    c.requires.rest c.rounded_near-size.ensures.down c.rounded_near-size.ensures.up c.args.negative c.with_sign.result
    small c.with_sign.ensures in
    nearest_within c.args.division.now.quotient c.args.division.now.rest c.args.d c.rounded_near-size.result
    c.requires.rest c.rounded_near-size.ensures.down c.rounded_near-size.ensures.up c.args.negative _ small
    (omega (arith, ints, fits, c.with_sign.ensures))
