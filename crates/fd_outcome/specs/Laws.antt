-- There is exactly one history, and what is done of it.
use Rattle.std.specs.Prelude.{◌≡◌, ◌⊎◌, ℕ, ◌+◌, ◌≤◌, ◌||◌, Bool, true, List, ◌∷◌, [], ◌++◌, length, Option, Some, None}
use Rattle.std.specs.Prelude.{is_some, map}
use Rattle.std.specs.List.{concat}
use Rattle.fd_certfile.specs.fd_outside.Answers.{Answer, HasFailed}
use Rattle.fd_certfile.specs.fd_outside.Emitted.{IsFront}
use Rattle.fd_report.specs.dss_model.Names.{bytes}
use Rattle.fd_report.specs.dss_model.declared.command.Command.{Command}
use Rattle.fd_report.specs.dss_script.Said.{Said, ScriptEnd}
use Rattle.fd_report.specs.Faults.{status}
use Rattle.fd_report.specs.declared.faults.Fault.{Fault}
use Rattle.fd_report.specs.declared.faults.Fault.TheVariants as fault
use Rattle.fd_outcome.specs.Statuses.{status_of, want_of_memory, write_fault}
use Rattle.fd_outcome.specs.Events.{History, names_of}
use Rattle.fd_outcome.specs.Work.{Step, ExactlyOne}
use Rattle.fd_outcome.specs.History.{IsHistory, IsFrom, Point}
use Rattle.fd_outcome.specs.Calls.{Call, reads, writes, Style, report, Doing, doing, fault_text, names_read}
use Rattle.fd_outcome.specs.Calls.{texts_written}
use Rattle.fd_outcome.specs.Done.{failing, Made, IsDone, torn_bytes, torn_writes}
use Rattle.fd_outcome.specs.Runs.{Runs}

-- ---- statuses

-- a fault's status is none of done, want of memory and a failed write
pub record IsFaultStatus (n : ℕ) : Type 0 where
  pub done : n ≡ 0 → ⊥
  pub memory : n ≡ want_of_memory → ⊥
  pub write : n ≡ write_fault → ⊥
  pub most : n ≤ 15

abbrev pub StatusLaw : Type 0
StatusLaw = (f : Fault) → IsFaultStatus (status f)

-- ---- one history

-- where each command comes to exactly one thing and each end too, there is exactly one history
abbrev pub HistoryLaw : {S : Type 0} → (Command → S → Step S → Type 0) → (S → Option (List ℕ))
    → (S → Option (List ℕ) → History → Type 0) → Type 0
HistoryLaw {S} is_step last_name is_last =
    ((c : Command) (s : S) → ExactlyOne (is_step c s))
    → ((s : S) (found : Option (List ℕ)) → ExactlyOne (is_last s found)) →
    (held : List ℕ → Option (List ℕ)) (said : List Said) (end : ScriptEnd) (s : S)
    → ExactlyOne (IsHistory is_step last_name is_last held said end s)

-- ---- names

-- the names that a report's calls ask for are those of its events, in order
abbrev pub NamesLaw : Type 0
NamesLaw = (h : History) → names_read (doing report h).calls ≡ map bytes (names_of h.events)

-- ---- cuts

-- where a read fails, the calls up to it are made, and then its fault is written
pub record IsReadFailing (n : ℕ) (d e : Doing) : Type 0 where
  pub front : List Call
  pub name : List ℕ
  pub rest : List Call
  pub calls : d.calls ≡ front ++ reads name ∷ rest
  pub reads_before : length (names_read front) ≡ n
  pub calls_now : e.calls ≡ front ++ reads name ∷ writes (fault_text (fault.Read name)) ∷ []
  pub end_now : e.end ≡ Some (fault.Read name)

abbrev pub ReadLaw : Type 0
ReadLaw = (n : ℕ) (d : Doing) → (failing (Some n) d ≡ d) ⊎ IsReadFailing n d (failing (Some n) d)

-- What was written is a front of the texts: so many writes, of which the last may be torn; at want of memory whole
-- texts. Where all calls are made and the last tells the end, the status is the end's.
pub record IsCut (tells : Bool) (d : Doing) (code : ℕ) (m : Made) : Type 0 where
  pub is_front : IsFront (texts_written d.calls) (length (texts_written m.calls) + torn_writes m.torn)
      (concat (texts_written m.calls) ++ torn_bytes m.torn)
  pub names : (rest : List (List ℕ)) × (names_read d.calls ≡ names_read m.calls ++ rest)
  pub answers : (code ≡ status_of d.end) ⊎ ((code ≡ want_of_memory) ⊎ (code ≡ write_fault))
  pub whole : (code ≡ write_fault → ⊥) → m.torn ≡ None
  pub complete : (is_some d.end || tells) ≡ true → m.calls ≡ d.calls → code ≡ status_of d.end

abbrev pub CutLaw : Type 0
CutLaw = (tells : Bool) (d : Doing) (code : ℕ) (m : Made) → IsDone tells d code m → IsCut tells d code m

-- ---- the status of a run

-- the status of a run is that of the one history's end, unless memory ran out, a write failed, or a read did; so where
-- none failed it is that status or want of memory
pub record IsDue (end : Option Fault) (code : ℕ) (before now : List Answer) : Type 0 where
  pub is_due : (code ≡ status_of end) ⊎
      ((code ≡ want_of_memory) ⊎ ((code ≡ write_fault) ⊎ (HasFailed before now × (code ≡ 4))))
  pub complete : (HasFailed before now → ⊥) → (code ≡ write_fault → ⊥)
      → (code ≡ status_of end) ⊎ (code ≡ want_of_memory)

module _ {T L S : Type 0} (is_step : Command → T → Step T → Type 0) (last_name : T → Option (List ℕ))
    (is_last : T → Option (List ℕ) → History → Type 0)
    (answers : L → List Answer) (taken : S → List ℕ) (calls : S → ℕ) where
  abbrev pub DueLaw : (List ℕ → Option (List ℕ)) → Style → Bool → Point T → L → L → S → S → ℕ → Type 0
  DueLaw held style tells p lib_old lib_new old new code =
      (one : ExactlyOne (λ h. IsFrom is_step last_name is_last held p h)) →
      Runs answers taken calls lib_old lib_new old new
      (λ h. IsFrom is_step last_name is_last held p h) style tells code →
      IsDue one.some.end code (answers lib_old) (answers lib_new)
