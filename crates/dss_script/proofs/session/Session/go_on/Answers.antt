use Rattle.std.proofs.Common.{◌∙◌, [], ap, refl, arith, Option}
use Rattle.dss_model.specs.declared.command.Command.{Command}
use Rattle.dss_model.specs.declared.command.Verb.{Verb}
use Rattle.fd_outside.proofs.CallerLemmas.{agrees_before, agrees_behind, later_same, later_then}
use Rattle.dss_script.specs.declared.session.Turn.{Turn}
use Rattle.dss_script.specs.Script.{asks}
use Rattle.dss_script.proofs.Commands.{asks_filling, fails_filling, reached_command}
use Rattle.dss_script.proofs.Entering.{reached_same, reached_read, reached_all, reached_said, fails_here, asks_here, fails_entering, asks_entering, grows_none, last_both, not_ended}
use Rattle.dss_script.proofs.session.Session.go_on.Goals as goal

pub loop-place-init : goal.loop-place-init
loop-place-init g c = record {
  later = later_same g.L.Library.answers g.L.Library.holds _;
  reached = λ files told. record { names = []; first = refl; said = refl; grown = grows_none _ };
  room = omega arith;
}

pub loop-place-preserved-in-Ok-Goes : goal.loop-place-preserved-in-Ok-Goes
loop-place-preserved-in-Ok-Goes g c =
    let spent = rw c.in-Ok-Goes.field-0-is at c.in-Ok-Goes.ensures.room in
    record {
      later = c.loop-place.invariant.later;
      reached = λ files told.
          reached_same _ _ _ _ _ (c.loop-place.invariant.reached files told)
          (rw c.in-Ok-Goes.field-0-is at (c.in-Ok-Goes.ensures.steps files));
      room = omega (arith, spent.0, c.loop-place.invariant.room);
    }

pub loop-place-preserved : goal.loop-place-preserved
loop-place-preserved g c =
    let spent = rw c.in-Ok-Reads.field-0-is at c.in-Ok-Reads.ensures.room in
    record {
      later = later_then g.L.Library.answers g.L.Library.holds _ _ _ c.loop-place.invariant.later c.enter.ensures.later;
      reached = λ files told.
          reached_read _ _ _ _ _ _ c.in-Ok-Reads.name (c.loop-place.invariant.reached files
          (agrees_before g.L.Library.answers g.L.Library.holds files _ _ _ c.enter.ensures.later told))
          (let reads = rw c.in-Ok-Reads.field-0-is at (c.in-Ok-Reads.ensures.steps files) in
          reads
          ∙ ap (asks c.in-Ok-Reads.name) (c.in-Ok-enter.ensures.told files
          (agrees_behind g.L.Library.answers g.L.Library.holds files _ _ _ c.loop-place.invariant.later told)))
          c.in-Ok-enter.ensures.asked;
      room = omega (arith, spent.0, c.in-Ok-enter.ensures.room.0, c.loop-place.invariant.room);
    }

pub returns-in-Err-enter-clause-told : goal.returns-in-Err-enter-clause-told
returns-in-Err-enter-clause-told g c =
    λ files told.
    fails_entering files _ _ _ c.enter.new.self c.enter.new.self _ _ c.in-Ok-Reads.name c.in-Err-enter.e (c.loop-place.invariant.reached files
    (agrees_before g.L.Library.answers g.L.Library.holds files _ _ _ c.enter.ensures.later told))
    (rw c.in-Ok-Reads.field-0-is at (c.in-Ok-Reads.ensures.steps files)) (c.in-Err-enter.ensures.told files
    (agrees_behind g.L.Library.answers g.L.Library.holds files _ _ _ c.loop-place.invariant.later told))

pub returns-in-Err-enter-clause-asked : goal.returns-in-Err-enter-clause-asked
returns-in-Err-enter-clause-asked g c =
    λ files told.
    asks_entering files _ _ _ c.enter.new.self _ _ _ c.in-Ok-Reads.name c.in-Err-enter.e (c.loop-place.invariant.reached files
    (agrees_before g.L.Library.answers g.L.Library.holds files _ _ _ c.enter.ensures.later told))
    (rw c.in-Ok-Reads.field-0-is at (c.in-Ok-Reads.ensures.steps files)) (c.in-Err-enter.ensures.told files
    (agrees_behind g.L.Library.answers g.L.Library.holds files _ _ _ c.loop-place.invariant.later told))
    c.in-Err-enter.ensures.asked c.in-Err-enter.ensures.goes c.in-Err-enter.ensures.named

pub returns-in-Err-enter-clause-later : goal.returns-in-Err-enter-clause-later
returns-in-Err-enter-clause-later g c =
    later_then g.L.Library.answers g.L.Library.holds _ _ _ c.loop-place.invariant.later c.enter.ensures.later

pub returns-in-Err-enter-clause-last : goal.returns-in-Err-enter-clause-last
returns-in-Err-enter-clause-last g c =
    last_both Unit (Option Command) _ _ _ _ c.in-Err-enter.e c.loop-place.invariant.later.told c.in-Err-enter.ensures.last

pub returns-in-Err-enter-clause-goes : goal.returns-in-Err-enter-clause-goes
returns-in-Err-enter-clause-goes g c = not_ended Unit (Option Command) c.in-Err-enter.e c.in-Err-enter.ensures.goes

pub returns-in-Ok-Ends-clause-told : goal.returns-in-Ok-Ends-clause-told
returns-in-Ok-Ends-clause-told g c =
    λ files told.
    let over = rw c.in-Ok-Ends.field-0-is at (c.in-Ok-Ends.ensures.steps files) in
    (reached_said _ _ _ _ _ (c.loop-place.invariant.reached files told) over.0, over.1)

pub returns-in-Ok-Ends-clause-asked : goal.returns-in-Ok-Ends-clause-asked
returns-in-Ok-Ends-clause-asked g c =
    λ files told.
    let over = rw c.in-Ok-Ends.field-0-is at (c.in-Ok-Ends.ensures.steps files) in
    reached_all _ _ _ _ _ (c.loop-place.invariant.reached files told) over.0 refl

pub returns-in-Err-clause-told : goal.returns-in-Err-clause-told
returns-in-Err-clause-told g c =
    λ files told. fails_here files _ _ c.step.new.self c.step.new.self _ _ c.in-Err.e (c.loop-place.invariant.reached files told) (c.in-Err.ensures.steps files)

pub returns-in-Err-clause-asked : goal.returns-in-Err-clause-asked
returns-in-Err-clause-asked g c = λ files told.
    asks_here files _ _ c.step.new.self _ _ c.in-Err.e (c.loop-place.invariant.reached files told)
    (c.in-Err.ensures.steps files) c.in-Err.ensures.goes c.in-Err.ensures.reads_nothing

pub returns-in-Err-clause-goes : goal.returns-in-Err-clause-goes
returns-in-Err-clause-goes g c = not_ended Turn (Option Command) c.in-Err.e c.in-Err.ensures.goes

pub returns-in-Ok-clause-told : goal.returns-in-Ok-clause-told
returns-in-Ok-clause-told g c =
    λ files told.
    let steps = rw c.in-Ok-Gives.field-0-is at (c.in-Ok-Gives.ensures.steps files) in
    reached_said _ _ _ _ _
    (reached_command files _ _ _ _ _ c.in-Ok.verb _ _ _ (c.loop-place.invariant.reached files
    (agrees_before g.L.Library.answers g.L.Library.holds files _ _ _ c.fill.ensures.later told)) steps
    (c.in-Ok.ensures.fills files
    (agrees_behind g.L.Library.answers g.L.Library.holds files _ _ _ c.loop-place.invariant.later told)))
    refl

pub returns-in-Ok-clause-asked : goal.returns-in-Ok-clause-asked
returns-in-Ok-clause-asked g c =
    λ files told.
    let steps = rw c.in-Ok-Gives.field-0-is at (c.in-Ok-Gives.ensures.steps files) in
    reached_all _ _ _ _ _
    (reached_command files _ _ _ _ _ c.in-Ok.verb _ _ _ (c.loop-place.invariant.reached files
    (agrees_before g.L.Library.answers g.L.Library.holds files _ _ _ c.fill.ensures.later told)) steps
    (c.in-Ok.ensures.fills files
    (agrees_behind g.L.Library.answers g.L.Library.holds files _ _ _ c.loop-place.invariant.later told)))
    refl refl

pub returns-in-Ok-clause-later : goal.returns-in-Ok-clause-later
returns-in-Ok-clause-later g c =
    later_then g.L.Library.answers g.L.Library.holds _ _ _ c.loop-place.invariant.later c.fill.ensures.later

pub returns-in-Err-fill-clause-told : goal.returns-in-Err-fill-clause-told
returns-in-Err-fill-clause-told g c =
    λ files told.
    let steps = rw c.in-Ok-Gives.field-0-is at (c.in-Ok-Gives.ensures.steps files) in
    fails_filling files _ _ _ _ _ c.step.new.self c.in-Err-fill.e _ _ _ (c.loop-place.invariant.reached files
    (agrees_before g.L.Library.answers g.L.Library.holds files _ _ _ c.fill.ensures.later told))
    steps (c.in-Err-fill.ensures.fills files
    (agrees_behind g.L.Library.answers g.L.Library.holds files _ _ _ c.loop-place.invariant.later told))

pub returns-in-Err-fill-clause-asked : goal.returns-in-Err-fill-clause-asked
returns-in-Err-fill-clause-asked g c =
    λ files told.
    let steps = rw c.in-Ok-Gives.field-0-is at (c.in-Ok-Gives.ensures.steps files) in
    asks_filling files _ _ _ _ _ c.in-Err-fill.e _ _ _ (c.loop-place.invariant.reached files
    (agrees_before g.L.Library.answers g.L.Library.holds files _ _ _ c.fill.ensures.later told)) steps
    (c.in-Err-fill.ensures.fills files
    (agrees_behind g.L.Library.answers g.L.Library.holds files _ _ _ c.loop-place.invariant.later told))

pub returns-in-Err-fill-clause-later : goal.returns-in-Err-fill-clause-later
returns-in-Err-fill-clause-later g c =
    later_then g.L.Library.answers g.L.Library.holds _ _ _ c.loop-place.invariant.later c.fill.ensures.later

pub returns-in-Err-fill-clause-last : goal.returns-in-Err-fill-clause-last
returns-in-Err-fill-clause-last g c =
    last_both Verb (Option Command) _ _ _ _ c.in-Err-fill.e c.loop-place.invariant.later.told c.in-Err-fill.ensures.last
