use Rattle.std.specs.Option.{option_map}
use Rattle.fd_lines.specs.Cuts.{texts_of}
use Rattle.fd_certfile.proofs.StepReading.{AreRead}
use Rattle.fd_certfile.proofs.row.push_steps.Given as goal

abbrev pub invariant-loop-step : goal.invariant-loop-step
invariant-loop-step l =
    AreRead l.version l.keep l.fn.cells l.cells l.count (texts_of (option_map (λ t. t.now) l.fields)) l._step l.next
    (texts_of (option_map (λ t. t.now) l.rest))
