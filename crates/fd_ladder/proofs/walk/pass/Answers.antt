use Rattle.fd_ladder.proofs.Passing.{next_due_taken, pass_ends, pass_ends_behind}
use Rattle.fd_ladder.proofs.walk.pass.Goals as goal

pub returns-then-place-sections-clause-taken : goal.returns-then-place-sections-clause-taken
returns-then-place-sections-clause-taken c =
    pass_ends_behind c.args.sections.now c.loop-place.due c.loop-place.from c.in-Some.place _ _ c.loop-place.invariant.due
    c.in-Some.ensures.first c.if-place-sections.true c.loop-place.invariant.rest

pub loop-place-preserved : goal.loop-place-preserved
loop-place-preserved c = record {
  rest = next_due_taken c.args.sections.now c.loop-place.due c.loop-place.from c.in-Some.place _ _ _
      c.loop-place.invariant.due c.in-Some.ensures.first c.in_ok-take_due.ensures.taken c.loop-place.invariant.rest;
  due = c.in_ok-take_due.ensures.due;
}

pub returns-clause-taken : goal.returns-clause-taken
returns-clause-taken c =
    pass_ends c.args.sections.now c.loop-place.due c.loop-place.from _ _ c.loop-place.invariant.due
    c.in_default.ensures.none c.loop-place.invariant.rest
