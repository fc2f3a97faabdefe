use Rattle.std.proofs.Common.{◌∙◌, ◌≤◌, ◌^◌, refl, sym, subst}
use Rattle.fd_enclosure.specs.fd_exact.States.{entry}
use Rattle.fd_enclosure.specs.fd_equations.Rounded.{jacobian_entry}
use Rattle.fd_enclosure.specs.fd_equations.Weights.{weight_at}
use Rattle.fd_enclosure.specs.Radii.{slope_radius}
use Rattle.fd_enclosure.specs.Sound.{number_at}
use Rattle.fd_cert.specs.Verdicts.{IsWidths}
use Rattle.fd_cert.proofs.FirstBroken.{bound_first, least_long, none_first, radius_first, tight, untrue_first}
use Rattle.fd_cert.proofs.rechecking.tested_at_point.Goals as goal

pub returns-in-Some : goal.returns-in-Some
returns-in-Some c =
    untrue_first c.args.net.now c.args.centre.now c.args.radius.now c.args.mismatch.now c.args.inverse.now
    c.deref.result.now (c.deref.ensures.value ∙ c.in_ok-own.ensures.mismatches) c.in-Some.place c.in-Some.ensures

pub judge-requires-clause-tight : goal.judge-requires-clause-tight
judge-requires-clause-tight c =
    tight c.args.net.now c.args.centre.now c.args.radius.now c.args.mismatch.now c.args.inverse.now c.deref.result.now
    (c.deref.ensures.value ∙ c.in_ok-own.ensures.mismatches) c.in_default.ensures c.requires.mismatches

pub returns-in-Refused : goal.returns-in-Refused
returns-in-Refused c =
    let v = c.args.net.now in
    let x = c.args.centre.now in
    let e = c.args.mismatch.now in
    let at = subst (IsWidths v.size (entry c.args.inverse.now) (jacobian_entry v x) (slope_radius v x) (weight_at v x)
    (number_at e)) c.in-Refused.is (c.in_ok-judged.ensures.widths (number_at e) (λ i l. refl)) in
    bound_first v x c.args.radius.now e c.args.inverse.now c.deref.result.now
    (c.deref.ensures.value ∙ c.in_ok-own.ensures.mismatches) c.in_default.ensures c.in-Refused.place c.in-Refused.sum
    at.refusal

pub first_narrow-requires-clause-few : goal.first_narrow-requires-clause-few
first_narrow-requires-clause-few c =
    let v = c.args.net.now in
    let x = c.args.centre.now in
    let e = c.args.mismatch.now in
    let at = subst (IsWidths v.size (entry c.args.inverse.now) (jacobian_entry v x) (slope_radius v x) (weight_at v x)
    (number_at e)) c.in-Within.is (c.in_ok-judged.ensures.widths (number_at e) (λ i l. refl)) in
    let long = least_long v x c.args.radius.now e c.args.inverse.now c.deref.result.now
    (c.deref.ensures.value ∙ c.in_ok-own.ensures.mismatches) c.in_default.ensures at.refusal
    c.deref-in-Within.result.now (c.deref-in-Within.ensures.value ∙ at.radii) in
    subst (λ n. n ≤ 2 ^ 11) (c.size-size.ensures.size ∙ sym long) c.size-size.ensures.small

pub first_narrow-requires-clause-long : goal.first_narrow-requires-clause-long
first_narrow-requires-clause-long c =
    let v = c.args.net.now in
    let x = c.args.centre.now in
    let e = c.args.mismatch.now in
    let at = subst (IsWidths v.size (entry c.args.inverse.now) (jacobian_entry v x) (slope_radius v x) (weight_at v x)
    (number_at e)) c.in-Within.is (c.in_ok-judged.ensures.widths (number_at e) (λ i l. refl)) in
    c.requires.radii
    ∙ sym (least_long v x c.args.radius.now e c.args.inverse.now c.deref.result.now
    (c.deref.ensures.value ∙ c.in_ok-own.ensures.mismatches) c.in_default.ensures at.refusal
    c.deref-in-Within.result.now (c.deref-in-Within.ensures.value ∙ at.radii))

pub returns-in-Some-first_narrow : goal.returns-in-Some-first_narrow
returns-in-Some-first_narrow c =
    let v = c.args.net.now in
    let x = c.args.centre.now in
    let e = c.args.mismatch.now in
    let at = subst (IsWidths v.size (entry c.args.inverse.now) (jacobian_entry v x) (slope_radius v x) (weight_at v x)
    (number_at e)) c.in-Within.is (c.in_ok-judged.ensures.widths (number_at e) (λ i l. refl)) in
    radius_first v x c.args.radius.now e c.args.inverse.now c.deref.result.now
    (c.deref.ensures.value ∙ c.in_ok-own.ensures.mismatches) c.in_default.ensures at.refusal
    c.deref-in-Within.result.now (c.deref-in-Within.ensures.value ∙ at.radii) c.in-Some-first_narrow.place
    c.in-Some-first_narrow.ensures

pub returns : goal.returns
returns c =
    let v = c.args.net.now in
    let x = c.args.centre.now in
    let e = c.args.mismatch.now in
    let at = subst (IsWidths v.size (entry c.args.inverse.now) (jacobian_entry v x) (slope_radius v x) (weight_at v x)
    (number_at e)) c.in-Within.is (c.in_ok-judged.ensures.widths (number_at e) (λ i l. refl)) in (
      none_first v x c.args.radius.now e c.args.inverse.now c.deref.result.now
          (c.deref.ensures.value ∙ c.in_ok-own.ensures.mismatches) c.in_default.ensures at.refusal
          c.deref-in-Within.result.now (c.deref-in-Within.ensures.value ∙ at.radii) c.in-None.ensures,
      c.in_ok-judged.ensures.boxes,
    )
