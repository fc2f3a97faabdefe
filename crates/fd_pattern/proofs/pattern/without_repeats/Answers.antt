use Rattle.std.proofs.Common.{ℕ, ◌+◌, ◌<◌, ◌∙◌, Global, Vec, ap, length, sym, subst, arith}
use Rattle.std.specs.List.{Contains}
use Rattle.fd_pattern.specs.Patterns.{IsAfterAll, IsNotAfter, IsRising, key}
use Rattle.fd_pattern.proofs.Order.{IsSoFar, is_kept, so_far_kept, so_far_push}
use Rattle.fd_pattern.proofs.pattern.without_repeats.Goals as goal
use Rattle.fd_pattern.proofs.pattern.without_repeats.Goals.{then-is_new+in_ok-push, else-is_new}

pub is_new-requires-clause-rising : goal.is_new-requires-clause-rising
is_new-requires-clause-rising c = subst IsRising (sym c.deref.ensures.value) c.loop-place.invariant.rising

pub is_new-requires-clause-order : goal.is_new-requires-clause-order
is_new-requires-clause-order c =
    let ps = c.args.places.now in
    let i = c.loop-place.place-index in
    subst (λ l. (k : ℕ) → k < length l → IsNotAfter (key l k) (key ps i)) (sym c.deref.ensures.value)
    (λ k l. c.loop-place.invariant.order k l i (omega arith) (omega arith))

pub loop-place-preserved : goal.loop-place-preserved
loop-place-preserved c =
    let ps = c.args.places.now in
    let i = c.loop-place.place-index in
    elim c.if-is_new.branch [
      | then-is_new+in_ok-push w ↦ subst (λ l. IsSoFar ps l (i + 1))
          (sym (ap (λ (v : Vec (ℕ × ℕ) Global). v.items) w.kept-is ∙ w.in_ok-push.ensures.items))
          (so_far_push ps c.loop-place.kept.items i c.loop-place.invariant (omega arith) c.requires
          (subst (λ l. IsAfterAll l (key ps i)) c.deref.ensures.value (c.is_new.ensures.yes w.if-is_new.true)))
      | else-is_new w ↦ subst (λ l. IsSoFar ps l (i + 1)) (sym (ap (λ (v : Vec (ℕ × ℕ) Global). v.items) w.kept-is))
          (so_far_kept ps c.loop-place.kept.items i c.loop-place.invariant
          (subst (λ l. Contains l (key ps i)) c.deref.ensures.value (c.is_new.ensures.no w.if-is_new.false)))
    ]

pub returns : goal.returns
returns c = is_kept c.args.places.now c.loop-place.kept.items c.loop-place.place-index c.loop-place-test.false c.loop-place.invariant
