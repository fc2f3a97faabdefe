use Rattle.std.proofs.Common.{◌≡◌, ◌∙◌, ◌-◌, ap, nat_lt, length, arith}
use Rattle.fd_bases.specs.Walk.{passes, reached_in}
use Rattle.fd_bases.proofs.Walking.{more_passes}
use Rattle.fd_bases.proofs.Worklist.{all_are_due, all_passed, empty_none}
use Rattle.fd_bases.proofs.walk.reached_in.Goals as goal

pub loop-pass-init : goal.loop-pass-init
unfolding reached_in
loop-pass-init c =
    let es = c.args.elements.now.entries in
    let all : length es - 0 ≡ length es = omega arith in
    record {
      rest = ap (λ k. passes k es c.new-reached.result.entries) all ∙ ap (passes (length es) es) c.new-reached.ensures.empty;
      due = all_are_due es c.in_ok-due.due c.new-reached.result.entries (λ q. c.in_ok-due.ensures q ∙ ap (nat_lt q) c.len.ensures.len);
    }

pub returns-then-is_empty : goal.returns-then-is_empty
returns-then-is_empty c =
    let es = c.args.elements.now.entries in
    all_passed (length es - c.loop-pass._pass) es c.loop-pass.due c.loop-pass.reached.entries c.loop-pass.invariant.due
    (empty_none c.loop-pass.due (c.is_empty.ensures.0 c.if-is_empty.true)) c.loop-pass.invariant.rest

pub loop-pass-preserved : goal.loop-pass-preserved
loop-pass-preserved c =
    let es = c.args.elements.now.entries in
    record {
      rest = more_passes (length es) c.loop-pass._pass es c.loop-pass.reached.entries c.pass.new.reached.entries
          (omega (arith, c.loop-pass-test.true, c.len-pass-end.ensures.len)) c.in_ok-pass.ensures.reached c.loop-pass.invariant.rest;
      due = c.in_ok-pass.ensures.due;
    }
