use Rattle.std.proofs.Common.{◌≡◌, ◌<◌, nat_abs, sym, subst, arith, FitsSigned, rules}
use Rattle.std.specs.Int.{w128}
use Rattle.std.proofs.lemmas.Int.{to_z-of_z}
use Rattle.fd_equations.specs.fd_exact.States.{part}
use Rattle.fd_inject.proofs.Limited.{past_none, past_some}
use Rattle.fd_inject.proofs.ranges.first_past.Goals as goal

pub returns-then-unsigned_abs-limit-clause-first : goal.returns-then-unsigned_abs-limit-clause-first
returns-then-unsigned_abs-limit-clause-first c =
    let f : FitsSigned w128 (part c.args.xs.now c.loop-place.place) = search rules in
    let e : c.unsigned_abs.result ≡ nat_abs (part c.args.xs.now c.loop-place.place) = simp to_z-of_z at c.unsigned_abs.ensures.value in
    sym (past_some c.args.limit c.args.xs.now c.loop-place.place c.loop-place-test.true c.loop-place.invariant
    (subst (λ n. c.args.limit < n) e c.if-unsigned_abs-limit.true))

pub returns-clause-first : goal.returns-clause-first
returns-clause-first c = sym (past_none c.args.limit c.args.xs.now (λ k l. c.loop-place.invariant k (omega arith)))
