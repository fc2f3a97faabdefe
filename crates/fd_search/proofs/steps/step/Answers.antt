use Rattle.std.proofs.Common.{◌∙◌, ◌^◌, length, ap, sym, subst}
use Rattle.std.proofs.lemmas.Result.{err_from_is_err_and}
use Rattle.fd_inject.specs.Ranges.{SizesWithin}
use Rattle.fd_inject.proofs.CallerLemmas.{length-moved, point_from}
use Rattle.fd_search.proofs.Changes.{length-update, next_is, step_past}
use Rattle.fd_search.proofs.steps.step.Goals as goal

pub add-requires-clause-long : goal.add-requires-clause-long
add-requires-clause-long c =
    ap length (c.deref.ensures.value ∙ c.in_ok-update.ensures.is)
    ∙ length-update c.args.net.now c.args.order.now c.args.rows.now c.args.x.now
    ∙ c.requires.long ∙ sym c.requires.point.long

pub returns-in_err-test_range-clause-step : goal.returns-in_err-test_range-clause-step
returns-in_err-test_range-clause-step c =
    let p = err_from_is_err_and c.from_residual-in_err-test_range.result c.from_residual-in_err-test_range.ensures.1 in
    let next = next_is c.args.net.now c.args.order.now c.args.rows.now c.args.x.now c.deref.result.now c.add.new.x
    (c.deref.ensures.value ∙ c.in_ok-update.ensures.is) c.add.ensures in
    rw (p.1, p.2) (step_past c.args.net.now c.args.order.now c.args.rows.now c.args.x.now c.add.new.x c.args.number
    c.in_err-test_range.field-0.0 c.in_ok-update.ensures.update next c.in_err-test_range.ensures.range)

pub returns-clause-step : goal.returns-clause-step
returns-clause-step c =
    let next = next_is c.args.net.now c.args.order.now c.args.rows.now c.args.x.now c.deref.result.now c.add.new.x
    (c.deref.ensures.value ∙ c.in_ok-update.ensures.is) c.add.ensures in
    record {
      fine = record {
        moves = c.in_ok-update.ensures.update;
        within = subst (SizesWithin (2 ^ 40)) next c.in_ok-test_range.ensures.within;
      };
      state_is = next;
      update_is = c.in_ok-update.ensures.is;
    }

pub returns-clause-point : goal.returns-clause-point
returns-clause-point c =
    point_from c.args.net.now c.add.new.x
    (ap length c.add.ensures ∙ length-moved c.args.x.now c.deref.result.now ∙ c.requires.point.long)
    c.in_ok-test_range.ensures.within

pub returns-clause-long : goal.returns-clause-long
returns-clause-long c =
    ap length c.in_ok-update.ensures.is
    ∙ length-update c.args.net.now c.args.order.now c.args.rows.now c.args.x.now ∙ c.requires.long
