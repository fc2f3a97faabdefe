-- What the code answers of a certificate, as a history.
use Rattle.std.specs.Prelude.{◌≡◌, ℕ, true, List, [], ◌∷◌, Option, Result, Ok, Err}
use Rattle.fd_check.specs.declared.fault.CheckFault.{CheckFault}
use Rattle.fd_check.specs.declared.fault.CheckFault.TheVariants as check
use Rattle.fd_solving.specs.fd_report.Accepted.{accepted_fields}
use Rattle.fd_solving.specs.fd_report.declared.faults.Cause.TheVariants as cause
use Rattle.fd_solving.specs.fd_report.declared.faults.Fault.TheVariants as fault
use Rattle.fd_solving.specs.fd_outcome.Events.{History, ended, finishes, row}
use Rattle.fd_solving.specs.fd_outcome.Calls.{doing, report}
use Rattle.fd_solving.specs.fd_outcome.Parts.{Printed}
use Rattle.fd_solving.specs.Answered.{IsOfCommand}
use Rattle.fd_checking.specs.Checks.{GatheredView, IsJudged}
use Rattle.fd_checking.specs.declared.judged.Judged.{Judged}
use Rattle.fd_checking.specs.declared.judged.Judged.TheVariants as judged

abbrev pub history_in : Judged → History
history_in (judged.Accepted blocks) = finishes (row (accepted_fields blocks) ∷ [])
history_in (judged.Refused f) = ended [] f

-- its fault is neither one of usage nor a failed read
abbrev pub IsOfCheck : Judged → Type 0
IsOfCheck (judged.Accepted blocks) = Unit {0}
IsOfCheck (judged.Refused f) = IsOfCommand f

-- it says what the check of a certificate answered
abbrev pub IsJudgedBy : Result ℕ CheckFault → Judged → Type 0
IsJudgedBy (Ok blocks) j = j ≡ judged.Accepted blocks
IsJudgedBy (Err (check.Refused line rule)) j = j ≡ judged.Refused (fault.Certificate line rule)
IsJudgedBy (Err (check.Range blame)) j = j ≡ judged.Refused (fault.Script blame.place (cause.Model blame.cause))
IsJudgedBy (Err check.NoMemory) j = ⊥

-- what is found comes to one of these, and all of its text or a front is handed to the sink
pub record IsAnsweredSo {S : Type 0} (taken : S → List ℕ) (calls : S → ℕ) (old new : S)
    (g : GatheredView) (found : Option (List ℕ)) (code : ℕ) : Type 0 where
  pub judged : Judged
  pub right : IsJudged g found (history_in judged)
  pub of_check : IsOfCheck judged
  pub prints : Printed taken calls old new true (doing report (history_in judged)) code
