use Rattle.std.proofs.Common.{◌≡◌, ◌∙◌, ◌<◌, ◌≤◌, ◌^◌, length, pos, nat_abs, inl, subst, sym, refl, arith, below_more, FitsSigned, to_z, of_z}
use Rattle.std.specs.Int.{w64}
use Rattle.std.proofs.lemmas.Int.{to_z-of_z}
use Rattle.std.proofs.lemmas.List.{length-set}
use Rattle.fd_triangles.specs.fd_derived.fd_factors.fd_exact.States.{part}
use Rattle.fd_substitution.specs.Sums.{IsPast, IsWithin}
use Rattle.fd_substitution.specs.Substitution.{lower_made, others_at}
use Rattle.fd_substitution.proofs.Filling.{filled_start, lower_more, lower_past, lower_within}
use Rattle.fd_substitution.proofs.Sizes.{narrow}
use Rattle.fd_substitution.proofs.lowering.lower.Goals as goal

pub loop-t-init : goal.loop-t-init
loop-t-init c = record {
  long = c.in_ok-numbers.ensures.long;
  each = λ j. c.in_ok-numbers.ensures.zero j
      ∙ sym (filled_start (pos 0) (λ k. k) (lower_made c.args.rows.now c.args.order.now c.args.right.now) j);
  within = λ k l. absurd (omega arith);
}

pub returns-in-None : goal.returns-in-None
returns-in-None c =
    let rows = c.args.rows.now in
    let order = c.args.order.now in
    let right = c.args.right.now in
    let t = c.loop-t.t in
    inl (record {
      place = t;
      place_in = c.loop-t-test.true;
      unknown_is = refl;
      before = c.loop-t.invariant.within;
      past = lower_past rows order right t c.loop-t.numbers.items c.loop-t.invariant.each
          (subst (λ l. IsPast (pos 0) (others_at rows t) (part l) (lower_made rows order right (part l) t))
          c.deref.ensures.value c.in-None.ensures);
    })

pub loop-t-preserved : goal.loop-t-preserved
loop-t-preserved c =
    let rows = c.args.rows.now in
    let order = c.args.order.now in
    let right = c.args.right.now in
    let t = c.loop-t.t in
    let xs = c.loop-t.numbers.items in
    let each = c.loop-t.invariant.each in
    let made : c.in-Some.number ≡ lower_made rows order right (part xs) t =
    subst (λ l. c.in-Some.number ≡ lower_made rows order right (part l) t) c.deref.ensures.value c.in-Some.ensures.0 in
    let within : IsWithin (pos 0) (others_at rows t) (part xs) (lower_made rows order right (part xs) t) =
    subst (λ l. IsWithin (pos 0) (others_at rows t) (part l) (lower_made rows order right (part l) t))
    c.deref.ensures.value c.in-Some.ensures.1 in
    let fits : FitsSigned w64 c.in-Some.number =
    narrow c.in-Some.number (subst (λ z. nat_abs z ≤ 2 ^ 62) (sym made) within.number) in
    let kept = to_z-of_z w64 c.in-Some.number fits in
    let t_in : t < length xs = omega (arith, c.loop-t.invariant.long, c.loop-t-test.true) in
    record {
      long = length-set xs t (to_z w64 (of_z w64 c.in-Some.number)) ∙ c.loop-t.invariant.long;
      each = lower_more rows order right t xs each (to_z w64 (of_z w64 c.in-Some.number)) t_in (kept ∙ made);
      within = below_more _ _ c.loop-t.invariant.within (lower_within rows order right t xs each within);
    }
