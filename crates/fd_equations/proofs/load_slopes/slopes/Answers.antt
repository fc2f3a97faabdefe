use Rattle.std.proofs.Common.{◌∙◌, arith}
use Rattle.fd_equations.proofs.LoadCells.{slopes_are}
use Rattle.fd_equations.proofs.Sizes.{kept_by}
use Rattle.fd_equations.proofs.load_slopes.slopes.Goals as goal

pub returns-clause-slopes : goal.returns-clause-slopes
returns-clause-slopes c =
    let v = c.voltage_of-at.result in
    let h = c.voltage_of-at.ensures in
    slopes_are c.args.x.now c.args.load.now _ _ _ c.rounded_slopes.result
    (kept_by v.re (omega (arith, h.small.re)) ∙ h.re) (kept_by v.im (omega (arith, h.small.im)) ∙ h.im)
    (kept_by v.magnitude (omega (arith, h.small.magnitude)) ∙ h.magnitude) c.rounded_slopes.ensures.slopes
