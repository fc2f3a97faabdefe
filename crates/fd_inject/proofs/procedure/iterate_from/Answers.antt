use Rattle.std.proofs.Common.{◌≡◌, ◌∙◌, ◌+◌, ap, refl, arith, false, Ok, Err}
use Rattle.std.proofs.lemmas.Result.{err_from_is_err_and}
use Rattle.fd_inject.proofs.Iterates.{iterated_more, last_fault, last_still, last_whole}
use Rattle.fd_inject.proofs.Limited.{unless_more}
use Rattle.fd_inject.proofs.procedure.iterate_from.Goals as goal

pub loop-number-init : goal.loop-number-init
loop-number-init c = record { reached = refl; point = c.requires.point }

pub returns-in_err-is_last-clause-last : goal.returns-in_err-is_last-clause-last
returns-in_err-is_last-clause-last c =
    let p = err_from_is_err_and c.from_residual.result c.from_residual.ensures.1 in
    let more = iterated_more c.args.net.now c.args.limits.now c.args.inverse.now c.args.x.now c.loop-number.number
    c.loop-number.number c.loop-number.x (Err c.in_err-is_last.field-0.0) c.loop-number.invariant.reached in
    rw (p.1, p.2) (unless_more c.in_err-is_last.field-0.0 (λ e.
    last_fault c.args.net.now c.args.limits.now c.args.inverse.now c.args.x.now
    (c.loop-number.number + 1) c.in_err-is_last.field-0.0 (omega arith) (more e))
    c.in_err-is_last.ensures.next)

pub returns-then-is_last-clause-last : goal.returns-then-is_last-clause-last
returns-then-is_last-clause-last c =
    last_still c.args.net.now c.args.limits.now c.args.inverse.now c.args.x.now (c.loop-number.number + 1)
    (c.loop-number.number + 1) c.iterate.new.x (omega arith)
    (iterated_more c.args.net.now c.args.limits.now c.args.inverse.now c.args.x.now c.loop-number.number
    c.loop-number.number c.loop-number.x _ c.loop-number.invariant.reached (c.in_ok-is_last.ensures.next
    ∙ ap (λ b. Ok (record { number = c.loop-number.number + 1; x = c.iterate.new.x; is_last = b }))
    c.if-is_last.true))

pub loop-number-preserved : goal.loop-number-preserved
loop-number-preserved c = record {
  reached = iterated_more c.args.net.now c.args.limits.now c.args.inverse.now c.args.x.now c.loop-number.number
      c.loop-number.number c.loop-number.x _ c.loop-number.invariant.reached
      (c.in_ok-is_last.ensures.next
      ∙ ap (λ b. Ok (record { number = c.loop-number.number + 1; x = c.iterate.new.x; is_last = b }))
      c.if-is_last.false);
  point = c.in_ok-is_last.ensures.point;
}

pub returns-clause-last : goal.returns-clause-last
returns-clause-last c =
    let all : c.loop-number.number ≡ c.args.limits.now.max_iterations = omega arith in
    last_whole c.args.net.now c.args.limits.now c.args.inverse.now c.args.x.now c.loop-number.number
    c.loop-number.number c.loop-number.x false all c.loop-number.invariant.reached
    ∙ ap (λ n. Ok (n, c.loop-number.x)) all
