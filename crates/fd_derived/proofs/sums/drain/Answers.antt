use Rattle.std.proofs.Common.{◌∙◌, ◌+◌, ◌*◌, ◌<◌, nat_abs, length, drop, get_or, arith, ap, refl, subst, FitsSigned, rules}
use Rattle.std.specs.Int.{w128}
use Rattle.std.proofs.lemmas.Int.{to_z-of_z}
use Rattle.std.proofs.lemmas.List.{drop_all, drop_more, length-set}
use Rattle.fd_factors.specs.fd_exact.States.{part}
use Rattle.fd_derived.specs.Rows.{number_at}
use Rattle.fd_derived.specs.Sums.{IsSupported, capped, spread}
use Rattle.fd_derived.proofs.Caps.{capped_self, capped_twice, drained_step, drained_all}
use Rattle.fd_derived.proofs.Drained.{spread_less, spread_nothing, supported_less, supported_nothing}
use Rattle.fd_derived.proofs.sums.drain.Goals as goal

pub loop-place-init : goal.loop-place-init
loop-place-init c = record {
  long = refl;
  total = refl;
  supported = c.requires.supported;
  fits = capped_self c.args.total (search rules);
}

pub loop-place-preserved : goal.loop-place-preserved
loop-place-preserved c =
    let k = c.loop-place.place-index in
    let p = get_or c.args.touched.now k 0 in
    let n = length c.args.sums.now in
    let p_in : p < n = c.requires.inside k 0 c.loop-place-test.true in
    let fits : FitsSigned w128 (part c.loop-place.sums p) = search rules in
    let size = c.unsigned_abs.ensures.value ∙ ap nat_abs (to_z-of_z w128 (part c.loop-place.sums p) fits) in
    let long = c.loop-place.invariant.long in
    let here : p < length c.loop-place.sums = omega arith in
    let next = c.plus_product-whole.ensures ∙ ap (λ m. capped (c.loop-place.whole + m * number_at c.args.bounds.now p)) size in
    record {
      long = length-set c.loop-place.sums p _ ∙ long;
      total = drained_step c.loop-place.whole c.plus_product-whole.result (nat_abs (part c.loop-place.sums p) * number_at c.args.bounds.now p) _ _ _
          next (spread_less c.loop-place.sums c.args.bounds.now p n p_in here) c.loop-place.invariant.total;
      supported = supported_less c.loop-place.sums p (drop (k + 1) c.args.touched.now) here
          (subst (IsSupported c.loop-place.sums) (drop_more c.args.touched.now k 0 c.loop-place-test.true) c.loop-place.invariant.supported);
      fits = capped_twice c.plus_product-whole.result _ next;
    }

pub returns-clause-total : goal.returns-clause-total
returns-clause-total c =
    let none = drop_all c.loop-place.place-index c.args.touched.now (omega (arith, c.loop-place.auto.place-index-end, c.loop-place-test.false)) in
    let zero = supported_nothing c.loop-place.sums (subst (IsSupported c.loop-place.sums) none c.loop-place.invariant.supported) in
    drained_all c.loop-place.whole (spread c.loop-place.sums c.args.bounds.now (length c.args.sums.now)) _ c.loop-place.invariant.fits
    (spread_nothing c.loop-place.sums c.args.bounds.now (length c.args.sums.now) c.loop-place.invariant.long zero) c.loop-place.invariant.total

pub returns-clause-zero : goal.returns-clause-zero
returns-clause-zero c =
    let none = drop_all c.loop-place.place-index c.args.touched.now (omega (arith, c.loop-place.auto.place-index-end, c.loop-place-test.false)) in
    supported_nothing c.loop-place.sums (subst (IsSupported c.loop-place.sums) none c.loop-place.invariant.supported)
