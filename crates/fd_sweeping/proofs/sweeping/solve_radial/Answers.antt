use Rattle.std.proofs.Common.{ℕ, [], Option, None, Some, sym, subst}
use Rattle.fd_sweep.specs.fd_ladder.Radial.{first_offending}
use Rattle.fd_solving.specs.fd_outcome.Calls.{report}
use Rattle.fd_solving.specs.fd_outcome.Parts.{EndsAt}
use Rattle.fd_solving.specs.fd_outcome.Work.{ends}
use Rattle.fd_solving.specs.fd_report.declared.faults.Fault.{Fault}
use Rattle.fd_solving.proofs.CallerLemmas.{ends_refused, ends_without_memory, if_some_weaker, never_read, never_usage}
use Rattle.fd_sweeping.specs.Sweeping.{IsByOrder}
use Rattle.fd_sweeping.proofs.Only.{one_by_order}
use Rattle.fd_sweeping.proofs.Stepped.{is_radial, isnt_radial, refused_by_order}
use Rattle.fd_sweeping.proofs.sweeping.solve_radial.Goals.{in-Ok, in-Err-NotRadial+in-Ok-not_radial}
use Rattle.fd_sweeping.proofs.sweeping.solve_radial.Goals.{in-Err-NotRadial+in-Err, in-Err-NoMemory}
use Rattle.fd_sweeping.proofs.sweeping.solve_radial.Goals as goal

pub returns-clause-ends : goal.returns-clause-ends
returns-clause-ends g c =
    let circuit = c.args.circuit.now in
    let n = c.args.settled.now in
    let old = c.args.out.now in
    let begun = c.args.begun.now in
    elim c.match-radial.branch [
      | in-Ok w ↦ rw (w.result-is, w.out-is) (if_some_weaker w.solve_at_rest.result _ _ (λ code h.
          subst (λ (o : Option ℕ). EndsAt report (IsByOrder circuit n o) g.S.Sink.taken g.S.Sink.calls old
          w.solve_at_rest.new.out begun code)
          (sym (is_radial circuit.elements _ w.in-Ok.ensures)) h) w.solve_at_rest.ensures.ends)
      | in-Err-NotRadial+in-Ok-not_radial w ↦ rw (w.result-is, w.out-is) (ends_refused report
          (IsByOrder circuit n
          (first_offending circuit.elements)) g.S.Sink.taken g.S.Sink.calls old w.print_fault.new.out begun
          w.in-Ok-not_radial.fault w.print_fault.result
          (subst (λ (f : Fault). IsByOrder circuit n (first_offending circuit.elements) (ends [] f))
          (sym w.in-Ok-not_radial.ensures.fault)
          (refused_by_order circuit n _
          (isnt_radial circuit.elements _ (rw w.in-Err-NotRadial.field-0-is at w.in-Err-NotRadial.ensures))))
          w.print_fault.ensures.prints)
      | in-Err-NotRadial+in-Err w ↦ rw (w.result-is, w.out-is) (ends_without_memory report
          (IsByOrder circuit n (first_offending circuit.elements)) g.S.Sink.taken g.S.Sink.calls old begun
          (one_by_order circuit n (first_offending circuit.elements)))
      | in-Err-NoMemory w ↦ rw (w.result-is, w.out-is) (ends_without_memory report
          (IsByOrder circuit n (first_offending circuit.elements)) g.S.Sink.taken g.S.Sink.calls old begun
          (one_by_order circuit n (first_offending circuit.elements)))
    ]

pub returns-clause-usage : goal.returns-clause-usage
returns-clause-usage g c =
    elim c.match-radial.branch [
      | in-Ok w ↦ rw (w.result-is) w.solve_at_rest.ensures.usage
      | in-Err-NotRadial+in-Ok-not_radial w ↦ rw (w.result-is) (never_usage g.S.Sink.taken g.S.Sink.calls c.args.out.now
          w.print_fault.new.out _ w.in-Ok-not_radial.fault w.print_fault.result w.in-Ok-not_radial.ensures.of_command
          w.print_fault.ensures.prints)
      | in-Err-NotRadial+in-Err w ↦ rw (w.result-is) (λ e. cc e)
      | in-Err-NoMemory w ↦ rw (w.result-is) (λ e. cc e)
    ]

pub returns-clause-read : goal.returns-clause-read
returns-clause-read g c =
    elim c.match-radial.branch [
      | in-Ok w ↦ rw (w.result-is) w.solve_at_rest.ensures.read
      | in-Err-NotRadial+in-Ok-not_radial w ↦ rw (w.result-is) (never_read g.S.Sink.taken g.S.Sink.calls c.args.out.now
          w.print_fault.new.out _ w.in-Ok-not_radial.fault w.print_fault.result w.in-Ok-not_radial.ensures.of_command
          w.print_fault.ensures.prints)
      | in-Err-NotRadial+in-Err w ↦ rw (w.result-is) (λ e. cc e)
      | in-Err-NoMemory w ↦ rw (w.result-is) (λ e. cc e)
    ]
