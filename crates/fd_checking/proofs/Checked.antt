-- What it says of a certificate that `check` ends without a fault.
use Rattle.std.proofs.Common.{◌≡◌, ◌∙◌, ℕ, List, Option, Some, None, refl, sym, ap}
use Rattle.fd_check.specs.dss_circuit.Circuit.{CircuitView}
use Rattle.fd_check.specs.dss_model.declared.command.Blame.{Blame}
use Rattle.fd_check.specs.fd_daily.Underway.{no_positions}
use Rattle.fd_check.specs.fd_certfile.declared.version.Version.{Version}
use Rattle.fd_check.specs.fd_certfile.Certificates.{behind_first, version_in}
use Rattle.fd_check.specs.fd_certfile.Lines.{lines_of}
use Rattle.fd_check.specs.fd_certfile.Verdict.{Answer, IsAnswer, IsAnswerBy, accepted, refused, stopped}
use Rattle.fd_check.specs.Checking.{after, due, open_solves}
use Rattle.fd_check.specs.Laws.{AcceptedLaw}
use Rattle.fd_solving.specs.fd_outcome.Events.{History}
use Rattle.fd_checking.specs.Checks.{CheckedLaw, IsFoundOf, IsOfSolves, judged_as}

of_version : AcceptedLaw → (solved : List CircuitView) (bytes : List ℕ) (n : ℕ) (v : Option Version)
    → version_in (lines_of bytes) ≡ v
    → IsAnswerBy due after v (lines_of bytes) (open_solves solved no_positions 0) (accepted n) → IsOfSolves solved bytes
of_version law solved bytes n None is h = absurd (let no : ⊥ = cc h in no)
of_version law solved bytes n (Some v) is h = record {
  version = v;
  certificate = h.certificate;
  version_is = is;
  reads = h.reads;
  of_rounds = law v (behind_first (lines_of bytes)) 2 0 n h.certificate (open_solves solved no_positions 0) h.reads (sym h.answer_is);
}

of_found : AcceptedLaw → (solved : List CircuitView) (found : Option (List ℕ)) (n : ℕ)
    → IsAnswer due after found (open_solves solved no_positions 0) (accepted n) → IsFoundOf solved found
of_found law solved None n h = absurd (let no : ⊥ = cc h in no)
of_found law solved (Some bytes) n h = of_version law solved bytes n (version_in (lines_of bytes)) refl h

of_answer : AcceptedLaw → (solved : List CircuitView) (found : Option (List ℕ)) (answer : Answer Blame)
    → IsAnswer due after found (open_solves solved no_positions 0) answer → (judged_as answer).end ≡ None
    → IsFoundOf solved found
of_answer law solved found (accepted n) h end = of_found law solved found n h
of_answer law solved found (refused line rule) h end = absurd (let no : ⊥ = cc end in no)
of_answer law solved found (stopped blame) h end = absurd (let no : ⊥ = cc end in no)

pub checked : AcceptedLaw → CheckedLaw
checked law g found h is end = of_answer law g.solved found is.answer is.right (ap (λ (x : History). x.end) (sym is.h_is) ∙ end)
