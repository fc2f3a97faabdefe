use Rattle.std.proofs.Common.{◌∙◌, pos, None, get_or, ap, sym}
use Rattle.std.specs.List.{fold}
use Rattle.std.proofs.lemmas.List.{take_all}
use Rattle.std.proofs.lemmas.List.Sums.{fold_more}
use Rattle.fd_inverse.specs.fd_arith.declared.terms.NodeAt.TheVariants.{Ground}
use Rattle.fd_inverse.specs.fd_arith.declared.terms.LoadModel.TheVariants.{ConstantPower}
use Rattle.fd_equations.specs.fd_system.declared.loads.LoadAt.{LoadAt}
use Rattle.fd_inject.specs.Procedure.{with_nominal}
use Rattle.fd_inject.proofs.procedure.set_magnitudes.Goals as goal

pub loop-load-preserved : goal.loop-load-preserved
loop-load-preserved c = let none : LoadAt = record {
  load = record { model = ConstantPower; p = pos 0; q = pos 0; vn = pos 0; vlo = pos 0; vhi = pos 0 };
  first = Ground;
  second = Ground;
  magnitude = None;
} in
    c.set_magnitude.ensures
    ∙ (λ i. with_nominal (c.loop-load.invariant i) (get_or c.args.loads.now c.loop-load.load-index none))
    ∙ sym (fold_more with_nominal c.args.x.now c.args.loads.now c.loop-load.load-index none c.loop-load-test.true)

pub returns : goal.returns
returns c = c.loop-load.invariant ∙ ap (fold with_nominal c.args.x.now) (take_all c.loop-load.load-index c.args.loads.now c.loop-load-test.false)
