-- What a script's session, a command line and a sink promise the loop over the script's commands.
use Rattle.std.specs.Prelude.{◌≡◌, ◌⊎◌, ℕ, ◌+◌, ◌||◌, Bool, true, List, [], ◌∷◌, ◌++◌, map, length, Option, Some, None}
use Rattle.std.specs.Prelude.{Result, Ok, Err}
use Rattle.std.specs.List.{concat}
use Rattle.fd_certfile.specs.fd_outside.Answers.{Answer}
use Rattle.fd_report.specs.dss_model.Names.{bytes}
use Rattle.fd_report.specs.dss_model.declared.command.Command.{Command}
use Rattle.fd_report.specs.dss_script.Said.{Said, name, command, ScriptEnd, at_its_end, refused_at}
use Rattle.fd_report.specs.dss_script.declared.fault.SessionFault.{SessionFault}
use Rattle.fd_report.specs.dss_script.declared.fault.SessionFault.TheVariants as session
use Rattle.fd_report.specs.declared.faults.Fault.{Fault}
use Rattle.fd_outcome.specs.Events.{Event, History}
use Rattle.fd_outcome.specs.Work.{Step, goes, ends}
use Rattle.fd_outcome.specs.Calls.{Call, writes, Style, body, Doing, fault_text, names_read, texts_written}
use Rattle.fd_outcome.specs.Done.{failing, Made, IsFrontOf, IsDone, Sees, HasReadCause, torn_bytes, torn_writes}
use Rattle.fd_outcome.specs.Way.{whole}
use Rattle.fd_outcome.specs.Behind.{behind, has_text, last_calls}

-- ---- a sink

-- the sink has taken what is made, in which nothing is asked
pub record Wrote {S : Type 0} (taken : S → List ℕ) (calls : S → ℕ) (old new : S)
    (m : Made) : Type 0 where
  pub names : names_read m.calls ≡ []
  pub bytes_are : taken new ≡ taken old ++ (concat (texts_written m.calls) ++ torn_bytes m.torn)
  pub writes_are : calls new ≡ calls old + (length (texts_written m.calls) + torn_writes m.torn)

-- all of it is made, or it is cut short, and the sink has taken that
pub record Printed {S : Type 0} (taken : S → List ℕ) (calls : S → ℕ) (old new : S) (tells : Bool) (d : Doing)
    (code : ℕ) : Type 0 where
  pub made : Made
  pub done : IsDone tells d code made
  pub wrote : Wrote taken calls old new made

-- a front of these calls is made, all of them only where there is none, and the sink has taken that
pub record IsCutIn {S : Type 0} (taken : S → List ℕ) (calls : S → ℕ) (old new : S) (all : List Call)
    (code : ℕ) : Type 0 where
  pub made : Made
  pub front : IsFrontOf all code made
  pub left : made.calls ≡ all → all ≡ []
  pub wrote : Wrote taken calls old new made

-- the record of a fault is written, and the fault is the end
abbrev pub fault_doing : Fault → Doing
fault_doing f = record { calls = writes (fault_text f) ∷ []; end = Some f }

-- ---- a session: what is left of the script and how it ends, before a call and after it, and the names asked before
-- and after

-- names that stand before the rest were asked
pub record Asked (left rest : List Said) (old new : List (List ℕ)) : Type 0 where
  pub names : List (List ℕ)
  pub left_is : left ≡ map name names ++ rest
  pub grown : new ≡ old ++ map bytes names

-- the name behind them was asked too, and its read failed
pub record IsUnread (left : List Said) (old new : List (List ℕ)) (unread : List ℕ) : Type 0 where
  pub names : List (List ℕ)
  pub more : List Said
  pub left_is : left ≡ map name names ++ name unread ∷ more
  pub grown : new ≡ old ++ map bytes (names ++ unread ∷ [])

-- memory ran out behind some names
pub record IsCutShort (left : List Said) (old new : List (List ℕ)) : Type 0 where
  pub rest : List Said
  pub asked : Asked left rest old new

abbrev pub Gives : List Said → ScriptEnd → List Said → ScriptEnd → List (List ℕ) → List (List ℕ)
    → Result (Option Command) SessionFault → Type 0
Gives left end rest last old new (Ok (Some c)) = Asked left (command c ∷ rest) old new × (last ≡ end)
Gives left end rest last old new (Ok None) = Asked left [] old new × (end ≡ at_its_end)
Gives left end rest last old new (Err (session.Script place c)) = Asked left [] old new × (end ≡ refused_at place c)
Gives left end rest last old new (Err (session.Read unread)) = IsUnread left old new unread
Gives left end rest last old new (Err other) = IsCutShort left old new

-- ---- a command line

-- the step goes on, and all that it gives is handed over
pub record GoesOn {T S : Type 0} (style : Style) (is_step : Step T → Type 0) (state : T)
    (taken : S → List ℕ) (calls : S → ℕ) (old new : S) (begun now : Bool) : Type 0 where
  pub events : List Event
  pub right : is_step (goes events state)
  pub wrote : Wrote taken calls old new (whole (behind style begun events))
  pub begun_is : now ≡ (begun || has_text (body style events))

abbrev pub events_in : {T : Type 0} → Step T → List Event
events_in (goes events s) = events
events_in (ends events f) = events

-- all of a step's events are handed over, or a front
abbrev pub EndsSo : {T : Type 0} → Style → Bool → Step T → ℕ → Made → Type 0
EndsSo style begun (goes events s) code m = IsFrontOf (behind style begun events) code m
EndsSo style begun (ends events f) code m =
    IsDone true (record { calls = behind style begun events ++ writes (fault_text f) ∷ []; end = Some f }) code m

-- The step ends the run, or the run is cut short in it: behind some of its events, or at its end.
pub record EndsAt {T S : Type 0} (style : Style) (is_step : Step T → Type 0)
    (taken : S → List ℕ) (calls : S → ℕ) (old new : S) (begun : Bool) (code : ℕ) : Type 0 where
  pub step : Step T
  pub right : is_step step
  pub made : Made
  pub shown : List Event
  pub hidden : List Event
  pub events_are : events_in step ≡ shown ++ hidden
  pub done : ((hidden ≡ []) × EndsSo style begun step code made) ⊎ IsFrontOf (behind style begun shown) code made
  pub wrote : Wrote taken calls old new made

-- ---- the end of a command line

-- a history of the end is done, whole or cut short
pub record Finishes {L S : Type 0} (style : Style) (tells : Bool) (is_history : History → Type 0)
    (answers : L → List Answer) (taken : S → List ℕ) (calls : S → ℕ)
    (lib_old lib_new : L) (old new : S) (begun : Bool) (code : ℕ) : Type 0 where
  pub history : History
  pub right : is_history history
  pub fails : Option ℕ
  pub cause : HasReadCause (answers lib_old) (answers lib_new) fails
  pub made : Made
  pub done : IsDone tells
      (failing fails
      (record { calls = last_calls style begun history.events history.end; end = history.end })) code made
  pub sees : Sees answers taken calls lib_old lib_new old new made
