use Rattle.std.proofs.Common.{◌∙◌, ℕ, List, Option, Some, [], ap, refl, subst, sym}
use Rattle.fd_solving.specs.fd_cert.declared.rule.Rule.TheVariants.{Absent}
use Rattle.fd_solving.specs.fd_outcome.Events.{ended}
use Rattle.fd_solving.specs.fd_report.declared.faults.Fault.TheVariants as fault
use Rattle.fd_solving.specs.dss_script.Sessions.{found_bytes}
use Rattle.fd_upgrade.specs.Answering.{IsAnswered}
use Rattle.fd_upgrade.specs.Upgrading.{IsUpgradeOf}
use Rattle.fd_upgrade.proofs.upgrading.answer_found.Goals as goal

pub returns-in-Bytes-clause-answers : goal.returns-in-Bytes-clause-answers
returns-in-Bytes-clause-answers g c =
    subst (λ (held : Option (List ℕ)). IsAnswered g.S.Sink.taken g.S.Sink.calls c.args.out.now c.print_upgrade.new.out held c.print_upgrade.result)
    (ap (λ (bs : List ℕ). Some bs) c.as_slice.ensures.value ∙ sym (ap found_bytes c.in-Bytes.is)) c.print_upgrade.ensures.answers

pub returns-in-Absent-clause-answers : goal.returns-in-Absent-clause-answers
returns-in-Absent-clause-answers g c = record {
  more = ended [] (fault.Certificate 0 Absent);
  right = subst (λ (held : Option (List ℕ)). IsUpgradeOf held (ended [] (fault.Certificate 0 Absent))) (sym (ap found_bytes c.in-Absent.is)) refl;
  prints = c.print_fault.ensures.prints;
}
