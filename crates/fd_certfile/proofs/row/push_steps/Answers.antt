use Rattle.std.proofs.Common.{ℕ, List, Option, IfNone, IfSome, Bor, ap, subst, arith}
use Rattle.std.specs.Option.{option_map}
use Rattle.fd_lines.specs.Cuts.{texts_of}
use Rattle.fd_certfile.specs.Readings.{IsNext, IsNoNext}
use Rattle.fd_certfile.proofs.StepReading.{read_all, read_more, read_none, read_past, read_start}
use Rattle.fd_certfile.proofs.row.push_steps.Goals as goal

pub loop-step-init : goal.loop-step-init
loop-step-init c =
    read_start c.args.version c.args.keep c.args.cells.now c.args.count (texts_of (option_map (λ t. t.now) c.args.fields))

pub returns-in_default : goal.returns-in_default
returns-in_default c =
    read_none c.args.keep c.args.cells.now c.loop-step.cells c.args.count
    (texts_of (option_map (λ t. t.now) c.args.fields)) c.loop-step._step c.loop-step.next
    (texts_of (option_map (λ t. t.now) c.loop-step.rest)) c.args.version c.args.steps c.requires c.loop-step-test.true
    c.loop-step.invariant
    (subst
    (λ (o : Option (ℕ × Option (Bor (List ℕ)))). IfNone o (IsNoNext c.args.version c.args.count c.loop-step.next (texts_of (option_map (λ t. t.now) c.loop-step.rest))))
    c.in_default.is c.in_ok-behind.ensures.none)

pub loop-step-preserved : goal.loop-step-preserved
loop-step-preserved c =
    read_more c.args.keep c.args.cells.now c.loop-step.cells c.args.count
    (texts_of (option_map (λ t. t.now) c.args.fields)) c.loop-step._step c.loop-step.next
    (texts_of (option_map (λ t. t.now) c.loop-step.rest)) c.args.version c.push_next.new.cells c.in-Some.behind
    (texts_of (option_map (λ t. t.now) c.in-Some.more)) c.loop-step.invariant
    (subst
    (λ (o : Option (ℕ × Option (Bor (List ℕ)))). IfSome o (λ p. IsNext c.args.version c.args.keep c.args.count c.loop-step.next
    c.loop-step.cells c.push_next.new.cells (texts_of (option_map (λ t. t.now) c.loop-step.rest)) p.0
    (texts_of (option_map (λ t. t.now) p.1))))
    c.in-Some.is c.in_ok-behind.ensures.some)

pub returns-in-Some-rest : goal.returns-in-Some-rest
returns-in-Some-rest c =
    read_past c.args.keep c.args.cells.now c.loop-step.cells c.args.count
    (texts_of (option_map (λ t. t.now) c.args.fields)) c.loop-step._step c.loop-step.next
    (texts_of (option_map (λ t. t.now) c.loop-step.rest)) c.args.version c.args.steps c.requires
    (omega (arith, c.loop-step-test.false, c.loop-step.auto._step-end)) c.loop-step.invariant c.in-Some-rest.field-0.now
    (ap (λ r. texts_of (option_map (λ t. t.now) r)) c.in-Some-rest.is)

pub returns-in_ok-push_gap-in-None : goal.returns-in_ok-push_gap-in-None
returns-in_ok-push_gap-in-None c =
    read_all c.args.keep c.args.cells.now c.loop-step.cells c.args.count
    (texts_of (option_map (λ t. t.now) c.args.fields)) c.loop-step._step c.loop-step.next
    (texts_of (option_map (λ t. t.now) c.loop-step.rest)) c.args.version c.args.steps c.requires
    (omega (arith, c.loop-step-test.false, c.loop-step.auto._step-end)) c.loop-step.invariant
    (ap (λ r. texts_of (option_map (λ t. t.now) r)) c.in-None.is) c.push_gap.new.cells c.in_ok-push_gap-in-None.ensures
