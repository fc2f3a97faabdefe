use Rattle.std.proofs.Common.{◌∙◌, ap, sym, FitsSigned}
use Rattle.std.specs.Int.{w128}
use Rattle.std.proofs.lemmas.Int.{to_z-of_z}
use Rattle.fd_system.specs.fd_arith.LoadModels.{by_model}
use Rattle.fd_load.specs.Slopes.{constant_current_slopes, constant_power_slopes, no_slopes}
use Rattle.fd_load.proofs.slopes.rounded_slopes.Goals as goal

pub returns-in-ConstantCurrent-clause-slopes : goal.returns-in-ConstantCurrent-clause-slopes
returns-in-ConstantCurrent-clause-slopes c =
    let w = c.args.load.now in
    let p : FitsSigned w128 c.args.p = c.ranges.p in
    let q : FitsSigned w128 c.args.q = c.ranges.q in
    let m : FitsSigned w128 c.args.m = c.ranges.m in
    (simp to_z-of_z at c.constant_current.ensures.slopes)
    ∙ ap (λ model. by_model model (constant_power_slopes w c.args.p c.args.q) no_slopes
    (constant_current_slopes w c.args.p c.args.q c.args.m))
    (sym c.in-ConstantCurrent.is)
