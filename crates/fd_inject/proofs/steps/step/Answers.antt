use Rattle.std.proofs.Common.{◌∙◌, ◌^◌, length, ap, sym, subst, arith}
use Rattle.std.proofs.lemmas.Result.{err_from_is_err_and}
use Rattle.fd_inject.specs.Ranges.{SizesWithin}
use Rattle.fd_inject.specs.Updates.{moved}
use Rattle.fd_inject.proofs.Iterates.{step_fault, step_ok, step_past}
use Rattle.fd_inject.proofs.Limited.{unless_always, unless_more}
use Rattle.fd_inject.proofs.Products.{length-moved, point_from, point_small}
use Rattle.fd_inject.proofs.steps.step.Goals as goal

pub returns-in_err-update-clause-step : goal.returns-in_err-update-clause-step
returns-in_err-update-clause-step c =
    let p = err_from_is_err_and c.from_residual.result c.from_residual.ensures.1 in
    rw (p.1, p.2) (unless_more c.in_err-update.field-0.0
    (step_fault c.args.net.now c.args.inverse.now c.args.number c.args.x.now c.in_err-update.field-0.0)
    c.in_err-update.ensures.update)

pub add-requires-clause-long : goal.add-requires-clause-long
add-requires-clause-long c = ap length c.deref.ensures.value ∙ c.in_ok-update.ensures.long ∙ sym c.requires.point.long

pub add-requires-clause-parts : goal.add-requires-clause-parts
add-requires-clause-parts c = point_small c.args.net.now c.args.x.now c.requires.point

pub add-requires-clause-update : goal.add-requires-clause-update
add-requires-clause-update c = subst (SizesWithin (2 ^ 86)) (sym c.deref.ensures.value) c.in_ok-update.ensures.small

pub test_range-requires : goal.test_range-requires
test_range-requires c = omega (arith, ap length c.add.ensures ∙ length-moved c.args.x.now c.deref.result.now ∙ c.requires.point.long)

pub returns-in_err-test_range-clause-step : goal.returns-in_err-test_range-clause-step
returns-in_err-test_range-clause-step c =
    let p = err_from_is_err_and c.from_residual-in_err-test_range.result c.from_residual-in_err-test_range.ensures.1 in
    rw (p.1, p.2)
    (unless_always c.in_err-test_range.field-0.0 (step_past c.args.net.now c.args.inverse.now c.args.number
    c.args.x.now c.in_ok-update.update.items c.add.new.x c.in_err-test_range.field-0.0 c.in_ok-update.ensures.update
    (c.add.ensures ∙ ap (moved c.args.x.now) c.deref.ensures.value) c.in_err-test_range.ensures.range))

pub returns-clause-step : goal.returns-clause-step
returns-clause-step c =
    step_ok c.args.net.now c.args.inverse.now c.args.number c.args.x.now c.in_ok-update.update.items c.add.new.x
    c.in_ok-update.ensures.update (c.add.ensures ∙ ap (moved c.args.x.now) c.deref.ensures.value)
    c.in_ok-test_range.ensures.range

pub returns-clause-point : goal.returns-clause-point
returns-clause-point c =
    point_from c.args.net.now c.add.new.x
    (ap length c.add.ensures ∙ length-moved c.args.x.now c.deref.result.now ∙ c.requires.point.long)
    c.in_ok-test_range.ensures.within
