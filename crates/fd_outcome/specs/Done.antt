-- What is done of it: where a read fails, memory runs out or a write fails, a front.
use Rattle.std.specs.Prelude.{◌≡◌, ◌⊎◌, ℕ, zero, suc, ◌+◌, ◌||◌, Bool, true, List, [], ◌∷◌, ◌++◌, length, Option, Some}
use Rattle.std.specs.Prelude.{None, is_some}
use Rattle.std.specs.List.{concat}
use Rattle.fd_certfile.specs.fd_outside.Answers.{Answer, HasFailed, names_asked}
use Rattle.fd_certfile.specs.fd_outside.Pieces.{IsCut}
use Rattle.fd_report.specs.declared.faults.Fault.{Fault}
use Rattle.fd_report.specs.declared.faults.Fault.TheVariants as fault
use Rattle.fd_outcome.specs.Statuses.{status_of, want_of_memory, write_fault}
use Rattle.fd_outcome.specs.Calls.{Call, reads, writes, Doing, fault_text, names_read, texts_written}

-- ---- a read that fails

abbrev pub called_first : Call → Doing → Doing
called_first call d = record { calls = call ∷ d.calls; end = d.end }

-- so many reads go well, and the next fails: its fault is the end, and nothing follows
abbrev pub read_failing : ℕ → List Call → Option Fault → Doing
read_failing n [] end = record { calls = []; end = end }
read_failing n (writes text ∷ calls) end = called_first (writes text) (read_failing n calls end)
read_failing zero (reads name ∷ calls) end =
    record { calls = reads name ∷ writes (fault_text (fault.Read name)) ∷ []; end = Some (fault.Read name) }
read_failing (suc n) (reads name ∷ calls) end = called_first (reads name) (read_failing n calls end)

abbrev pub failing : Option ℕ → Doing → Doing
failing None d = d
failing (Some n) d = read_failing n d.calls d.end

-- ---- what is done

-- these calls were made, and then, perhaps, a write that failed and took a front of its text
pub record Made : Type 0 where
  pub calls : List Call
  pub torn : Option (List ℕ)

-- all of it, with the status of its end
pub record IsAll (d : Doing) (status : ℕ) (m : Made) : Type 0 where
  pub calls : m.calls ≡ d.calls
  pub torn : m.torn ≡ None
  pub status_is : status ≡ status_of d.end

-- up to where memory ran out
pub record IsShort (all : List Call) (status : ℕ) (m : Made) : Type 0 where
  pub rest : List Call
  pub calls : all ≡ m.calls ++ rest
  pub torn : m.torn ≡ None
  pub status_is : status ≡ want_of_memory

-- up to a write that failed
pub record IsTorn (all : List Call) (status : ℕ) (m : Made) : Type 0 where
  pub text : List ℕ
  pub rest : List Call
  pub calls : all ≡ m.calls ++ writes text ∷ rest
  pub front : List ℕ
  pub torn : m.torn ≡ Some front
  pub cut : IsCut front text
  pub status_is : status ≡ write_fault

-- a front of these calls
abbrev pub IsFrontOf : List Call → ℕ → Made → Type 0
IsFrontOf all status m = IsShort all status m ⊎ IsTorn all status m

-- cut short: a front, and not all where the last call tells the end
abbrev pub IsCutShort : Bool → List Call → ℕ → Made → Type 0
IsCutShort told all status m = IsFrontOf all status m × (told ≡ true → m.calls ≡ all → ⊥)

-- All of it, or cut short. A fault's record tells that it is the end; `tells` says whether a text tells an end without
-- a fault.
abbrev pub IsDone : Bool → Doing → ℕ → Made → Type 0
IsDone tells d status m = IsAll d status m ⊎ IsCutShort (is_some d.end || tells) d.calls status m

-- ---- what the outside sees

abbrev pub torn_bytes : Option (List ℕ) → List ℕ
torn_bytes None = []
torn_bytes (Some front) = front

abbrev pub torn_writes : Option (List ℕ) → ℕ
torn_writes None = 0
torn_writes (Some front) = 1

-- the names asked grow by those that were read, the bytes taken by the texts that were written, one write for each
pub record Sees {L S : Type 0} (answers : L → List Answer) (taken : S → List ℕ) (calls : S → ℕ) (lib_old lib_new : L)
    (old new : S)
    (m : Made) : Type 0 where
  pub names : names_asked (answers lib_new) ≡ names_asked (answers lib_old) ++ names_read m.calls
  pub bytes : taken new ≡ taken old ++ (concat (texts_written m.calls) ++ torn_bytes m.torn)
  pub writes : calls new ≡ calls old + (length (texts_written m.calls) + torn_writes m.torn)

-- a read fails only where the library's last answer is a failed read
abbrev pub HasReadCause : List Answer → List Answer → Option ℕ → Type 0
HasReadCause before now fails = (fails ≡ None) ⊎ HasFailed before now
