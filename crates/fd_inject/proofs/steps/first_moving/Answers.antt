use Rattle.std.proofs.Common.{◌∙◌, ◌<◌, ◌≤◌, ◌^◌, nat_abs, length, pos, arith, ap, sym, subst, below_more}
use Rattle.std.proofs.lemmas.List.{get_or_read}
use Rattle.fd_equations.specs.fd_exact.States.{part}
use Rattle.fd_inject.specs.Procedure.{is_moving}
use Rattle.fd_inject.proofs.Iterates.{moving_none, moving_some, tolerance_size, weight_size, weights_long}
use Rattle.fd_inject.proofs.Sizes.{kept_by}
use Rattle.fd_inject.proofs.steps.first_moving.Goals as goal

pub index-requires : goal.index-requires
index-requires c = omega (arith, weights_long c.args.net.now c.args.x.now c.in_ok-weights.weights.items c.in_ok-weights.ensures.weights)

pub is_moving-requires-clause-tolerance : goal.is_moving-requires-clause-tolerance
is_moving-requires-clause-tolerance c =
    let t = tolerance_size c.args.limits.now c.requires.limits in
    subst (λ z. nat_abs z ≤ 10 ^ 8) (sym (kept_by c.args.limits.now.tolerance (omega (arith, t)))) t

pub is_moving-requires-clause-weight : goal.is_moving-requires-clause-weight
is_moving-requires-clause-weight c =
    let ws = c.in_ok-weights.weights.items in
    let below : c.loop-place.place < c.args.net.now.size = omega arith in
    let inside : c.loop-place.place < length ws = omega (arith, weights_long c.args.net.now c.args.x.now ws c.in_ok-weights.ensures.weights) in
    let at = get_or_read ws c.loop-place.place c.index.result.now inside c.index.ensures (pos 0) in
    let small = subst (λ z. nat_abs z ≤ 2 ^ 66) (sym at) (weight_size (part ws c.loop-place.place) (c.in_ok-weights.ensures.range c.loop-place.place below)) in
    subst (λ z. nat_abs z ≤ 2 ^ 66) (sym (kept_by c.index.result.now (omega (arith, small)))) small

pub is_moving-requires-clause-update : goal.is_moving-requires-clause-update
is_moving-requires-clause-update c =
    let small : nat_abs (part c.args.update.now c.loop-place.place) ≤ 2 ^ 86 = c.requires.small c.loop-place.place (omega arith) in
    subst (λ z. nat_abs z ≤ 2 ^ 86) (sym (kept_by (part c.args.update.now c.loop-place.place) (omega (arith, small)))) small

pub returns-then-is_moving-clause-first : goal.returns-then-is_moving-clause-first
returns-then-is_moving-clause-first c =
    let ws = c.in_ok-weights.weights.items in
    let below : c.loop-place.place < c.args.net.now.size = omega arith in
    let inside : c.loop-place.place < length ws = omega (arith, weights_long c.args.net.now c.args.x.now ws c.in_ok-weights.ensures.weights) in
    let at = get_or_read ws c.loop-place.place c.index.result.now inside c.index.ensures (pos 0) in
    let w = subst (λ z. nat_abs z ≤ 2 ^ 66) (sym at) (weight_size (part ws c.loop-place.place) (c.in_ok-weights.ensures.range c.loop-place.place below)) in
    let u : nat_abs (part c.args.update.now c.loop-place.place) ≤ 2 ^ 86 = c.requires.small c.loop-place.place (omega arith) in
    let t = kept_by c.args.limits.now.tolerance (omega (arith, tolerance_size c.args.limits.now c.requires.limits)) in
    let weight = kept_by c.index.result.now (omega (arith, w)) ∙ at ∙ ap (λ ws. part ws c.loop-place.place) c.in_ok-weights.ensures.weights in
    let update = kept_by (part c.args.update.now c.loop-place.place) (omega (arith, u)) in
    let kind = c.kind.ensures in
    let tested = c.is_moving.ensures ∙ (λ i. is_moving (kind i) (t i) (weight i) (update i)) in
    sym (moving_some c.args.net.now c.args.limits.now c.args.x.now c.args.update.now c.loop-place.place below
    c.loop-place.invariant (sym tested ∙ c.if-is_moving.true))

pub loop-place-preserved : goal.loop-place-preserved
loop-place-preserved c =
    let ws = c.in_ok-weights.weights.items in
    let below : c.loop-place.place < c.args.net.now.size = omega arith in
    let inside : c.loop-place.place < length ws = omega (arith, weights_long c.args.net.now c.args.x.now ws c.in_ok-weights.ensures.weights) in
    let at = get_or_read ws c.loop-place.place c.index.result.now inside c.index.ensures (pos 0) in
    let w = subst (λ z. nat_abs z ≤ 2 ^ 66) (sym at) (weight_size (part ws c.loop-place.place) (c.in_ok-weights.ensures.range c.loop-place.place below)) in
    let u : nat_abs (part c.args.update.now c.loop-place.place) ≤ 2 ^ 86 = c.requires.small c.loop-place.place (omega arith) in
    let t = kept_by c.args.limits.now.tolerance (omega (arith, tolerance_size c.args.limits.now c.requires.limits)) in
    let weight = kept_by c.index.result.now (omega (arith, w)) ∙ at ∙ ap (λ ws. part ws c.loop-place.place) c.in_ok-weights.ensures.weights in
    let update = kept_by (part c.args.update.now c.loop-place.place) (omega (arith, u)) in
    let kind = c.kind.ensures in
    let tested = c.is_moving.ensures ∙ (λ i. is_moving (kind i) (t i) (weight i) (update i)) in
    below_more _ _ c.loop-place.invariant (sym tested ∙ c.if-is_moving.false)

pub returns-clause-first : goal.returns-clause-first
returns-clause-first c = sym (moving_none c.args.net.now c.args.limits.now c.args.x.now c.args.update.now (λ j l. c.loop-place.invariant j (omega arith)))
