-- How a run ends, whatever a library answers.
use Rattle.std.specs.Prelude.{◌≡◌, ◌⊎◌, ℕ, List, [], ◌∷◌, ◌++◌, Option}
use Rattle.fd_certfile.specs.fd_outside.Answers.{Answer, EndsFailed, IsLater}
use Rattle.fd_certfile.specs.fd_outside.Causes.{Rose}
use Rattle.fd_certfile.specs.fd_outside.Emitted.{Takes}
use Rattle.fd_certfile.specs.fd_outside.Files.{Files}
use Rattle.fd_report.specs.dss_model.Names.{bytes}
use Rattle.fd_report.specs.Faults.{status}
use Rattle.fd_report.specs.declared.faults.Fault.{Fault}
use Rattle.fd_report.specs.declared.faults.Fault.TheVariants as fault
use Rattle.fd_outcome.specs.Calls.{fault_text}
use Rattle.fd_outcome.specs.Statuses.{want_of_memory, write_fault}

-- the statuses that cut a run short
abbrev pub CutsShort : ℕ → Type 0
CutsShort code = (code ≡ want_of_memory) ⊎ (code ≡ write_fault)

-- the status is a fault's, and its record is the last text that was taken
pub record EndsAtFault {S : Type 0} (taken : S → List ℕ) (calls : S → ℕ) (old new : S)
    (code : ℕ) : Type 0 where
  pub which : Fault
  pub code_is : code ≡ status which
  pub texts : List (List ℕ)
  pub takes : Takes taken calls old new (texts ++ fault_text which ∷ [])

-- it is done to its end, or cut short, or ends at a fault
abbrev pub Answers : {S : Type 0} → (S → List ℕ) → (S → ℕ) → S → S → ℕ → Type 0
Answers taken calls old new code = (code ≡ 0) ⊎ (CutsShort code ⊎ EndsAtFault taken calls old new code)

-- The last answer is a failed read, and the last text that was taken is its fault's record.
pub record EndsAtRead {L S : Type 0} (answers : L → List Answer) (lib_old lib_new : L)
    (taken : S → List ℕ) (calls : S → ℕ) (old new : S) : Type 0 where
  pub texts : List (List ℕ)
  pub name : List ℕ
  pub asks : EndsFailed (answers lib_old) (answers lib_new) (bytes name)
  pub takes : Takes taken calls old new (texts ++ fault_text (fault.Read name) ∷ [])

-- What a run answers and does: answers are only added, and those of a library that tells what it holds agree with that;
-- usage is none of its statuses; at a failed read the last answer is one, and a failed write is answered only where the
-- sink's count rose.
pub record IsUntold {L S : Type 0} (answers : L → List Answer) (holds : L → Option Files) (sink_faults : S → ℕ)
    (taken : S → List ℕ) (calls : S → ℕ) (lib_old lib_new : L) (old new : S) (code : ℕ) : Type 0 where
  pub statuses : Answers taken calls old new code
  pub later : IsLater answers holds lib_old lib_new
  pub usage : code ≡ 2 → ⊥
  pub last : code ≡ 4 → EndsAtRead answers lib_old lib_new taken calls old new
  pub write : code ≡ write_fault → Rose (sink_faults old) (sink_faults new)
