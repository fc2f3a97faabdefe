use Rattle.std.proofs.Common.{◌≡◌, ◌∙◌, ℕ, ℤ, ◌<◌, ◌^◌, ◌≤ℤ◌, List, pos, length, ap, sym, subst}
use Rattle.fd_enclosure.specs.fd_exact.States.{entry, part}
use Rattle.fd_enclosure.specs.fd_equations.Rounded.{jacobian_entry, list_of}
use Rattle.fd_enclosure.specs.fd_equations.Weights.{weight_at}
use Rattle.fd_enclosure.proofs.CallerLemmas.fd_equations.{length-list_of}
use Rattle.fd_enclosure.specs.Bounds.{bound_at}
use Rattle.fd_enclosure.specs.Radii.{slope_radius}
use Rattle.fd_cert.specs.Columns.{AreWeights, HasNumbers, HasWeights}
use Rattle.fd_cert.specs.Verdicts.{IsWidths}
use Rattle.fd_cert.proofs.RowBounds.{signs_of}
use Rattle.fd_cert.proofs.SlopeRadii.{are_weights, boxes_are, weights_at}
use Rattle.fd_cert.proofs.certificate.judge.Goals as goal

-- weights that were read through a slice
read_weights : (n : ℕ) (ws xs : List ℤ) → xs ≡ ws
    → ((l : ℕ) → l < n → (pos (10 ^ 6) ≤ℤ part ws l) × (part ws l ≤ℤ pos (2 ^ 66))) → (l : ℕ) → l < n
    → (pos (10 ^ 6) ≤ℤ part xs l) × (part xs l ≤ℤ pos (2 ^ 66))
read_weights n ws xs e h = subst (λ ys. (l : ℕ) → l < n → (pos (10 ^ 6) ≤ℤ part ys l) × (part ys l ≤ℤ pos (2 ^ 66))) (sym e) h

pub half_widths-requires-clause-long : goal.half_widths-requires-clause-long
half_widths-requires-clause-long c =
    ap length (c.deref.ensures.value ∙ c.in_ok-weights.ensures.weights)
    ∙ length-list_of c.args.net.now.size (λ place. pos (weight_at c.args.net.now c.args.x.now place))

pub bounds_at-requires-clause-boxes : goal.bounds_at-requires-clause-boxes
bounds_at-requires-clause-boxes c =
    let v = c.args.net.now in
    c.deref-2.ensures.value
    ∙ boxes_are 200 v c.args.x.now c.deref.result.now c.in_ok-boxes.boxes.items
    (weights_at v c.args.x.now c.deref.result.now (c.deref.ensures.value ∙ c.in_ok-weights.ensures.weights))
    c.in_ok-boxes.ensures

pub bounds_at-requires-clause-weights : goal.bounds_at-requires-clause-weights
bounds_at-requires-clause-weights c =
    let v = c.args.net.now in
    are_weights v c.args.x.now c.deref-3.result.now (c.deref-3.ensures.value ∙ c.in_ok-weights.ensures.weights)
    (read_weights v.size c.in_ok-weights.weights.items c.deref-3.result.now c.deref-3.ensures.value
    c.in_ok-weights.ensures.range)

pub bounds_at-requires-clause-values : goal.bounds_at-requires-clause-values
bounds_at-requires-clause-values c = weights_at c.args.net.now c.args.x.now c.deref-3.result.now (c.deref-3.ensures.value ∙ c.in_ok-weights.ensures.weights)

pub verdict-requires-clause-weights : goal.verdict-requires-clause-weights
verdict-requires-clause-weights c =
    let v = c.args.net.now in
    subst (λ n. AreWeights n c.deref-5.result.now) (sym c.requires.mismatch)
    (are_weights v c.args.x.now c.deref-5.result.now (c.deref-5.ensures.value ∙ c.in_ok-weights.ensures.weights)
    (read_weights v.size c.in_ok-weights.weights.items c.deref-5.result.now c.deref-5.ensures.value
    c.in_ok-weights.ensures.range))

pub verdict-requires-clause-long : goal.verdict-requires-clause-long
verdict-requires-clause-long c = ap length (c.deref-4.ensures.value ∙ c.in_ok-bounds.ensures) ∙ length-list_of c.args.net.now.size _ ∙ sym c.requires.mismatch

pub verdict-requires-clause-signs : goal.verdict-requires-clause-signs
verdict-requires-clause-signs c =
    let v = c.args.net.now in
    let x = c.args.x.now in
    let e = c.deref-5.ensures.value ∙ c.in_ok-weights.ensures.weights in
    signs_of v.size (entry c.args.inverse.now) (jacobian_entry v x) (slope_radius v x)
    (weight_at v x) c.deref-4.result.now c.deref-5.result.now (c.deref-4.ensures.value ∙ c.in_ok-bounds.ensures)
    (are_weights v x c.deref-5.result.now e (read_weights v.size c.in_ok-weights.weights.items c.deref-5.result.now
    c.deref-5.ensures.value c.in_ok-weights.ensures.range))
    (weights_at v x c.deref-5.result.now e)

pub returns-clause-boxes : goal.returns-clause-boxes
returns-clause-boxes c =
    let v = c.args.net.now in
    boxes_are 200 v c.args.x.now c.deref.result.now c.in_ok-boxes.boxes.items
    (weights_at v c.args.x.now c.deref.result.now (c.deref.ensures.value ∙ c.in_ok-weights.ensures.weights))
    c.in_ok-boxes.ensures

pub returns-clause-widths : goal.returns-clause-widths
returns-clause-widths c = λ e h.
    let v = c.args.net.now in
    let x = c.args.x.now in
    let w = weight_at v x in
    let J = jacobian_entry v x in
    let R = slope_radius v x in
    let C = entry c.args.inverse.now in
    let q = c.requires.mismatch in
    subst (λ n. IsWidths n C J R w e c.in_ok-widths.widths) q (c.in_ok-widths.ensures J R w e
    (subst (λ n. c.deref-4.result.now ≡ list_of n (bound_at n C J R w)) (sym q) (c.deref-4.ensures.value ∙ c.in_ok-bounds.ensures))
    (subst (λ n. HasWeights n c.deref-5.result.now w) (sym q) (weights_at v x c.deref-5.result.now (c.deref-5.ensures.value ∙ c.in_ok-weights.ensures.weights)))
    (subst (λ n. HasNumbers n c.args.mismatch.now e) (sym q) h))
