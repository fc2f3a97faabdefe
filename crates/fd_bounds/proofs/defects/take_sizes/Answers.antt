use Rattle.std.proofs.Common.{◌≡◌, ◌∙◌, ◌+◌, ◌*◌, ◌<◌, pos, nat_abs, List, ℤ, length, set, drop, get_or, arith, ap, refl, subst, sym}
use Rattle.std.proofs.lemmas.List.{drop_all, drop_more, length-set}
use Rattle.fd_substitution.specs.fd_derived.fd_factors.fd_exact.States.{part}
use Rattle.fd_substitution.specs.fd_derived.Sums.{IsSupported}
use Rattle.fd_substitution.proofs.CallerLemmas.fd_derived.{supported_less, supported_nothing}
use Rattle.fd_bounds.specs.Defects.{weighed}
use Rattle.fd_bounds.specs.declared.defects.Defect.{Defect}
use Rattle.fd_bounds.proofs.Sizes.{by_size, less_one, none_left, noted_all, noted_more}
use Rattle.fd_bounds.proofs.defects.take_sizes.Goals as goal

pub take_size-requires : goal.take_size-requires
take_size-requires c =
    let p_in : get_or c.args.touched.now c.loop-place.place-index 0 < length c.args.sums.now = c.requires.inside c.loop-place.place-index 0 c.loop-place-test.true in
    subst (λ n. get_or c.args.touched.now c.loop-place.place-index 0 < n) (sym c.loop-place.invariant.long) p_in

pub loop-place-init : goal.loop-place-init
loop-place-init c = record {
  long = refl;
  supported = c.requires.supported;
  noted = λ r. subst (λ (ds : List Defect). weighed ds r + by_size c.args.sums.now r (length c.args.sums.now) ≡ by_size c.args.sums.now r (length c.args.sums.now))
      (sym c.new-sizes.ensures.items) (omega arith);
}

pub loop-place-preserved : goal.loop-place-preserved
loop-place-preserved c =
    let k = c.loop-place.place-index in
    let p = get_or c.args.touched.now k 0 in
    let n = length c.args.sums.now in
    let sums = c.loop-place.sums in
    let p_in : p < n = c.requires.inside k 0 c.loop-place-test.true in
    let here : p < length sums = subst (λ m. p < m) (sym c.loop-place.invariant.long) p_in in
    let cleared = c.in_ok-take_size.ensures.cleared in
    record {
      long = ap length cleared ∙ length-set sums p (pos 0) ∙ c.loop-place.invariant.long;
      supported = subst (λ (s : List ℤ). IsSupported s (drop (k + 1) c.args.touched.now)) (sym cleared)
          (supported_less sums p (drop (k + 1) c.args.touched.now) here
          (subst (IsSupported sums) (drop_more c.args.touched.now k 0 c.loop-place-test.true) c.loop-place.invariant.supported));
      noted = λ r. subst (λ (s : List ℤ). weighed c.take_size.new.sizes.items r + by_size s r n ≡ by_size c.args.sums.now r n) (sym cleared)
          (noted_more (weighed c.loop-place.sizes.items r) (weighed c.take_size.new.sizes.items r) (nat_abs (part sums p) * r p)
          (by_size sums r n) (by_size (set sums p (pos 0)) r n) (by_size c.args.sums.now r n)
          (c.in_ok-take_size.ensures.noted r) (less_one sums r p n p_in here) (c.loop-place.invariant.noted r));
    }

pub returns-clause-zero : goal.returns-clause-zero
returns-clause-zero c =
    let none = drop_all c.loop-place.place-index c.args.touched.now (omega (arith, c.loop-place.auto.place-index-end, c.loop-place-test.false)) in
    supported_nothing c.loop-place.sums (subst (IsSupported c.loop-place.sums) none c.loop-place.invariant.supported)

pub returns-clause-sizes : goal.returns-clause-sizes
returns-clause-sizes c r =
    let none = drop_all c.loop-place.place-index c.args.touched.now (omega (arith, c.loop-place.auto.place-index-end, c.loop-place-test.false)) in
    let zero = supported_nothing c.loop-place.sums (subst (IsSupported c.loop-place.sums) none c.loop-place.invariant.supported) in
    noted_all (weighed c.loop-place.sizes.items r) (by_size c.loop-place.sums r (length c.args.sums.now)) (by_size c.args.sums.now r (length c.args.sums.now))
    (c.loop-place.invariant.noted r) (none_left c.loop-place.sums r (length c.args.sums.now) c.loop-place.invariant.long zero)
