use Rattle.std.proofs.Common.{FitsSigned}
use Rattle.std.specs.Int.{w128}
use Rattle.std.proofs.lemmas.Int.{to_z-of_z}
use Rattle.fd_slope.proofs.slope.load_slope.Goals as goal

pub returns-clause-at : goal.returns-clause-at
returns-clause-at c =
    let p : FitsSigned w128 c.args.p = c.ranges.p in
    let q : FitsSigned w128 c.args.q = c.ranges.q in
    let m : FitsSigned w128 c.args.m = c.ranges.m in
    simp to_z-of_z at c.rounded_slopes.ensures.slopes

pub returns-clause-radius : goal.returns-clause-radius
returns-clause-radius c =
    let p : FitsSigned w128 c.args.p = c.ranges.p in
    let q : FitsSigned w128 c.args.q = c.ranges.q in
    let m : FitsSigned w128 c.args.m = c.ranges.m in
    simp to_z-of_z at c.radii.ensures.value
