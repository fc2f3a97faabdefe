use Rattle.std.proofs.Common.{◌≡◌, FitsSigned, sym}
use Rattle.std.specs.Int.{w128}
use Rattle.std.proofs.lemmas.Int.{to_z-of_z}
use Rattle.fd_arith.specs.Interval.{clip}
use Rattle.fd_arith.specs.Enclosing.{clamped_all, clamped_from}
use Rattle.fd_arith.proofs.SignedEnds.{lower_signed, upper_signed, clipped, clipped_order}
use Rattle.fd_arith.proofs.interval.Interval.clamp.Goals as goal

pub returns-in_default : goal.returns-in_default
returns-in_default g c =
    let fl : FitsSigned w128 c.args.lo = c.ranges.lo in
    let fh : FitsSigned w128 c.args.hi = c.ranges.hi in
    let e = simp to_z-of_z at c.capped.ensures in
    clamped_all c.args.lo c.args.hi c.requires (sym c.in_default.ensures.ends) e

lower : (g : _) (c : goal.After-min-2 g) → c.min.result ≡ clip c.args.lo c.args.hi c.in-Some.low
lower g c =
    clipped _ _ _ _ _ (lower_signed _ _ c.in-Some.ensures.valid)
    c.ranges.lo c.ranges.hi c.max.ensures.value c.min.ensures.value

upper : (g : _) (c : goal.After-min-2 g) → c.min-2.result ≡ clip c.args.lo c.args.hi c.in-Some.high
upper g c =
    clipped _ _ _ _ _ (upper_signed _ _ c.in-Some.ensures.valid)
    c.ranges.lo c.ranges.hi c.max-2.ensures.value c.min-2.ensures.value

pub capped-requires-2 : goal.capped-requires-2
capped-requires-2 g c =
    clipped_order _ _ _ _ _ _ c.ranges.lo c.ranges.hi c.requires c.in-Some.ensures.valid.1.1 (lower g c) (upper g c)

pub returns : goal.returns
returns g c =
    let l : FitsSigned w128 c.min.result = record { sfits = c.min.type_inv } in
    let h : FitsSigned w128 c.min-2.result = record { sfits = c.min-2.type_inv } in
    clamped_from c.args.lo c.args.hi c.requires c.in-Some.ensures.ends (simp to_z-of_z at c.capped-2.ensures)
    (lower g c.before) (upper g c.before)
