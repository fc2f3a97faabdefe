use Rattle.std.proofs.Common.{◌≡◌, ◌∙◌, ◌^◌, length, ap, sym, subst, Ok, rules, arith}
use Rattle.std.specs.List.{fold}
use Rattle.fd_equations.proofs.CallerLemmas.{rewritten}
use Rattle.std.proofs.lemmas.Result.{err_from_is_err_and}
use Rattle.fd_inject.specs.Procedure.{with_nominal}
use Rattle.fd_inject.specs.Ranges.{SizesWithin, in_range}
use Rattle.fd_inject.specs.Updates.{update_for}
use Rattle.fd_inject.proofs.Iterates.{constants_long, length-started, start_fault, start_ok, start_past}
use Rattle.fd_inject.proofs.Limited.{unless_always, unless_more}
use Rattle.fd_inject.proofs.Products.{point_from}
use Rattle.fd_inject.proofs.procedure.start.Goals as goal

pub update_for-requires-clause-long : goal.update_for-requires-clause-long
update_for-requires-clause-long c =
    constants_long c.args.net.now c.deref.result.now (c.deref.ensures.value ∙ c.in_ok-constants.ensures.sums)
    ∙ sym c.requires.size

pub returns-in_err-x-clause-start : goal.returns-in_err-x-clause-start
returns-in_err-x-clause-start c =
    let p = err_from_is_err_and c.from_residual-in_err-x.result c.from_residual-in_err-x.ensures.1 in
    rw (p.1, p.2) (unless_more c.in_err-x.field-0.0 (λ e.
    start_fault c.args.net.now c.args.inverse.now c.in_err-x.field-0.0
    (ap (update_for c.args.inverse.now 0) (sym (c.deref.ensures.value ∙ c.in_ok-constants.ensures.sums)) ∙ e))
    c.in_err-x.ensures.update)

pub test_range-requires : goal.test_range-requires
test_range-requires c =
    let n : c.in_ok-x.x.len ≡ length c.set_magnitudes.new.x = search rules in
    let same = c.deref-2.ensures.value ∙ rewritten c.in_ok-x.x.items c.set_magnitudes.new.x c.in_ok-x.x.len n ∙ c.set_magnitudes.ensures in
    omega (
      arith,
      ap length same
          ∙ length-started c.deref_mut.result.now c.loads.result.now
          ∙ ap length c.deref_mut.ensures.value
          ∙ c.in_ok-x.ensures.long
          ∙ c.requires.size,
    )

pub returns-in_err-test_range-clause-start : goal.returns-in_err-test_range-clause-start
returns-in_err-test_range-clause-start c =
    let p = err_from_is_err_and c.from_residual-in_err-test_range.result c.from_residual-in_err-test_range.ensures.1 in
    let n : c.in_ok-x.x.len ≡ length c.set_magnitudes.new.x = search rules in
    rw (p.1, p.2) (unless_always c.in_err-test_range.field-0.0
    (start_past c.args.net.now c.args.inverse.now c.in_ok-x.x.items c.deref-2.result.now c.in_err-test_range.field-0.0
    (ap (update_for c.args.inverse.now 0) (sym (c.deref.ensures.value ∙ c.in_ok-constants.ensures.sums))
    ∙ c.in_ok-x.ensures.update)
    (c.deref-2.ensures.value ∙ rewritten c.in_ok-x.x.items c.set_magnitudes.new.x c.in_ok-x.x.len n
    ∙ c.set_magnitudes.ensures ∙ (λ i. fold with_nominal (c.deref_mut.ensures.value i) (c.loads.ensures i)))
    c.in_err-test_range.ensures.range))

pub returns-clause-start : goal.returns-clause-start
returns-clause-start c =
    let n : c.in_ok-x.x.len ≡ length c.set_magnitudes.new.x = search rules in
    start_ok c.args.net.now c.args.inverse.now c.in_ok-x.x.items _
    (ap (update_for c.args.inverse.now 0) (sym (c.deref.ensures.value ∙ c.in_ok-constants.ensures.sums))
    ∙ c.in_ok-x.ensures.update)
    (rewritten c.in_ok-x.x.items c.set_magnitudes.new.x c.in_ok-x.x.len n
    ∙ c.set_magnitudes.ensures ∙ (λ i. fold with_nominal (c.deref_mut.ensures.value i) (c.loads.ensures i)))
    (subst (λ ys. in_range (2 ^ 40) 0 ys ≡ Ok ys) c.deref-2.ensures.value c.in_ok-test_range.ensures.range)

pub returns-clause-point : goal.returns-clause-point
returns-clause-point c =
    let n : c.in_ok-x.x.len ≡ length c.set_magnitudes.new.x = search rules in
    let same = rewritten c.in_ok-x.x.items c.set_magnitudes.new.x c.in_ok-x.x.len n ∙ c.set_magnitudes.ensures in
    point_from c.args.net.now _ (ap length same ∙ length-started c.deref_mut.result.now c.loads.result.now
    ∙ ap length c.deref_mut.ensures.value ∙ c.in_ok-x.ensures.long ∙ c.requires.size)
    (subst (SizesWithin (2 ^ 40)) c.deref-2.ensures.value c.in_ok-test_range.ensures.within)
