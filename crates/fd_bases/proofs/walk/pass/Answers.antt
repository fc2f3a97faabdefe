use Rattle.std.proofs.Common.{◌<◌, length, arith}
use Rattle.fd_bases.proofs.Worklist.{next_due_taken, pass_ends}
use Rattle.fd_bases.proofs.walk.pass.Goals as goal

pub overflow_add-from : goal.overflow_add-from
overflow_add-from c =
    let low = c.loop-place.invariant.due.within c.in-Some.place c.in-Some.ensures.first.here in
    omega (arith, low, c.requires.few)

pub loop-place-preserved : goal.loop-place-preserved
loop-place-preserved c =
    let es = c.args.elements.now.entries in
    let low : c.in-Some.place < length es = c.loop-place.invariant.due.within c.in-Some.place c.in-Some.ensures.first.here in
    record {
      rest = next_due_taken es c.loop-place.due c.loop-place.from c.in-Some.place c.loop-place.reached.entries
          c.take_due.new.reached.entries _ c.loop-place.invariant.due c.in-Some.ensures.first
          c.in_ok-take_due.ensures.reached c.loop-place.invariant.rest;
      due = c.in_ok-take_due.ensures.due;
      within = omega (arith, low);
    }

pub returns-clause-reached : goal.returns-clause-reached
returns-clause-reached c =
    pass_ends c.args.elements.now.entries c.loop-place.due c.loop-place.from c.loop-place.reached.entries _
    c.loop-place.invariant.due c.in_default.ensures.none c.loop-place.invariant.rest
