use Rattle.std.proofs.Common.{◌≡◌, ◌∙◌, ◌⊎◌, ⊎_elim, ℕ, ◌+◌, ◌<◌, Bool, false, sym, ap, subst, arith}
use Rattle.fd_solving.specs.fd_exact.FirstLaws.{first_none, first_some}
use Rattle.fd_solving.specs.fd_enclosure.Sound.{number_at}
use Rattle.fd_solving.specs.fd_pattern.Views.{kind_of}
use Rattle.fd_sweeping.specs.Beside.{apart_at, is_outside_by}
use Rattle.fd_sweeping.proofs.beside.first_outside.Goals as goal

last_or : (k place : ℕ) → k < place + 1 → (k < place) ⊎ (k ≡ place)
last_or k place h = grind arith

more : (p : ℕ → Bool) (place : ℕ) → ((k : ℕ) → k < place → p k ≡ false) → p place ≡ false → (k : ℕ) → k < place + 1
    → p k ≡ false
more p place before here k h =
    ⊎_elim (λ (low : k < place). before k low) (λ (same : k ≡ place). ap p same ∙ here) (last_or k place h)

pub returns-then-is_outside_at-clause-first : goal.returns-then-is_outside_at-clause-first
returns-then-is_outside_at-clause-first c =
    let p = λ (k : ℕ). is_outside_by (kind_of c.args.net.now k) (number_at c.args.boxes.now k)
    (apart_at c.args.x.now c.args.centre.now k) in
    sym (first_some p c.args.net.now.size c.loop-place.place
    (subst (λ n. c.loop-place.place < n) c.size-place-end.ensures.size c.loop-place-test.true)
    (λ j l. c.loop-place.invariant j l) (sym c.is_outside_at.ensures ∙ c.if-is_outside_at.true))

pub loop-place-preserved : goal.loop-place-preserved
loop-place-preserved c =
    more
    (λ k. is_outside_by (kind_of c.args.net.now k) (number_at c.args.boxes.now k)
    (apart_at c.args.x.now c.args.centre.now k))
    c.loop-place.place c.loop-place.invariant (sym c.is_outside_at.ensures ∙ c.if-is_outside_at.false)

pub returns-clause-first : goal.returns-clause-first
returns-clause-first c =
    let p = λ (k : ℕ). is_outside_by (kind_of c.args.net.now k) (number_at c.args.boxes.now k)
    (apart_at c.args.x.now c.args.centre.now k) in
    sym
    (first_none p c.args.net.now.size
    (λ j l. let e = c.size-place-end.ensures.size in c.loop-place.invariant j (omega arith)))
