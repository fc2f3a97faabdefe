use Rattle.std.proofs.Common.{◌∙◌, true, [], Some, None, inl, inr, map, ap, sym, subst, refl}
use Rattle.fd_solving.specs.fd_cert.declared.rule.Rule.{Rule}
use Rattle.fd_solving.specs.fd_cert.declared.rule.Rule.TheVariants.{Grammar}
use Rattle.fd_solving.specs.fd_outside.Emitted.{pieces_of}
use Rattle.fd_solving.specs.fd_outcome.Calls.{calls_of, report, writes}
use Rattle.fd_solving.specs.fd_outcome.Events.{ended}
use Rattle.fd_solving.specs.fd_outcome.Parts.{Printed, fault_doing}
use Rattle.fd_solving.specs.fd_report.declared.faults.Fault.TheVariants as fault
use Rattle.fd_solving.proofs.CallerLemmas.{printed_as}
use Rattle.fd_upgrade.specs.Upgrading.{lines_written}
use Rattle.fd_upgrade.proofs.Asking.{short_answer}
use Rattle.fd_upgrade.proofs.History.{written_calls}
use Rattle.fd_upgrade.proofs.upgrading.print_upgrade.Goals as goal

pub returns-in-Ok-clause-answers : goal.returns-in-Ok-clause-answers
returns-in-Ok-clause-answers g c =
    let u = c.in-Ok.ensures.text in
    let pieces = ap pieces_of c.as_slice.ensures.value ∙ u.text in
    record {
      more = lines_written u.certificate;
      right = inl (record { pieces = pieces_of c.in-Ok.lines.items; upgraded = u; h_is = refl });
      prints = printed_as g.S.Sink.taken g.S.Sink.calls true c.args.out.now c.print_end.new.out
          (map writes (pieces_of c.as_slice.result.now)) (calls_of report (lines_written u.certificate).events None) None c.print_end.result
          (ap (map writes) pieces ∙ sym (written_calls u.certificate))
          (c.print_end.ensures.prints true (λ told none. cc (sym pieces ∙ none)));
    }

pub returns-in-Err-Refused-clause-answers : goal.returns-in-Err-Refused-clause-answers
returns-in-Err-Refused-clause-answers g c =
    let r = rw c.in-Err-Refused.field-0-is at c.in-Err-Refused.ensures.refused in
    record {
      more = ended [] (fault.Certificate c.in-Err-Refused.line Grammar);
      right = inr (record { outside = c.in-Err-Refused.line; first = r.1; h_is = refl });
      prints = subst (λ (rule : Rule). Printed g.S.Sink.taken g.S.Sink.calls c.args.out.now c.print_fault.new.out true
          (fault_doing (fault.Certificate c.in-Err-Refused.line rule)) c.print_fault.result) r.0 c.print_fault.ensures.prints;
    }

pub returns-in-Err-NoMemory-clause-answers : goal.returns-in-Err-NoMemory-clause-answers
returns-in-Err-NoMemory-clause-answers g c = short_answer g.S.Sink.taken g.S.Sink.calls c.args.out.now (Some c.args.bytes.now)
