use Rattle.std.proofs.Common.{◌≡◌, ◌∙◌, ℕ, ◌+◌, ◌/◌, ◌^◌, ◌<◌, List, length, arith, ap, subst, sym}
use Rattle.std.proofs.lemmas.List.{length_push}
use Rattle.fd_substitution.specs.fd_derived.Rows.{number_at}
use Rattle.fd_bounds.proofs.Loops.{each_push, raised_all}
use Rattle.fd_bounds.proofs.rising.raised.Goals as goal
use Rattle.fd_bounds.proofs.rising.raised.Goals.{After-loop-place}

pub loop-place-preserved : goal.loop-place-preserved
loop-place-preserved c =
    let k = c.loop-place.place in
    let list = c.loop-place.list.items in
    let f : ℕ → ℕ = (λ j. number_at c.args.bounds.now j + number_at c.args.bounds.now j / 2 ^ 20 + 1) in
    record {
      long = ap length c.in_ok-push.ensures.items ∙ length_push list c.raise.result ∙ ap (λ n. n + 1) c.loop-place.invariant.long;
      each = subst (λ (l : List ℕ). (j : ℕ) → j < k + 1 → number_at l j ≡ f j) (sym c.in_ok-push.ensures.items)
          (each_push f list k c.raise.result c.loop-place.invariant.long c.loop-place.invariant.each c.raise.ensures);
    }

pub returns-clause-long : goal.returns-clause-long
returns-clause-long c =
    let all : c.loop-place.place ≡ length c.args.bounds.now = omega (arith, c.loop-place.auto.place-end, c.loop-place-test.false) in
    c.loop-place.invariant.long ∙ all

pub returns-clause-each : goal.returns-clause-each
returns-clause-each c =
    let all : c.loop-place.place ≡ length c.args.bounds.now = omega (arith, c.loop-place.auto.place-end, c.loop-place-test.false) in
    raised_all c.args.bounds.now c.loop-place.list.items (c.loop-place.invariant.long ∙ all)
    (λ j l. c.loop-place.invariant.each j (subst (λ n. j < n) (sym all) l))
