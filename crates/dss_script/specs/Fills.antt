-- What a call that reads the files of load shapes comes to.
use Rattle.std.specs.Prelude.{◌≡◌, ℕ, List, Result, Ok, Err}
use Rattle.dss_model.specs.declared.command.Place.{Place}
use Rattle.fd_outside.specs.Answers.{AgreesSince, Answer, names_asked}
use Rattle.fd_outside.specs.Files.{Files}
use Rattle.dss_script.specs.declared.fault.SessionFault.{SessionFault}
use Rattle.dss_script.specs.declared.fault.SessionFault.TheVariants as fault
use Rattle.dss_script.specs.declared.fault.ScriptCause.{ScriptCause}
use Rattle.dss_script.specs.Shapes.{Filling}
use Rattle.dss_script.specs.Sessions.{FailsAt, Grows, GrowsUpTo}

-- what comes of a file that was found is answered, or its cause with the place, unless memory ran out
abbrev pub IsFilled : {X : Type 0} → Place → Result X ScriptCause → Result X SessionFault → Type 0
IsFilled place said (Ok x) = said ≡ Ok x
IsFilled place said (Err (fault.Script at c)) = (at ≡ place) × (said ≡ Err c)
IsFilled place said (Err (fault.Read name)) = ⊥
IsFilled place said (Err fault.NoMemory) = Unit {0}
IsFilled place said (Err fault.Ended) = ⊥

-- a cause with this place, unless memory ran out
abbrev pub IsRefusal : Place → ScriptCause → SessionFault → Type 0
IsRefusal place cause (fault.Script at c) = (at ≡ place) × (c ≡ cause)
IsRefusal place cause (fault.Read name) = ⊥
IsRefusal place cause fault.NoMemory = Unit {0}
IsRefusal place cause fault.Ended = ⊥

-- the names are asked that are said, and what comes of their files is answered, or the cause with its place; where a
-- read fails, the names up to the one that failed, and where memory runs out, some of the first of them
abbrev pub Fills :
    {X : Type 0} → Place → Filling X → List (List ℕ) → List (List ℕ) → Result X SessionFault → Type 0
Fills place said old new (Ok x) = (said.filled ≡ Ok x) × Grows old new said.names
Fills place said old new (Err (fault.Script at c)) = (at ≡ place) × (said.filled ≡ Err c) × Grows old new said.names
Fills place said old new (Err (fault.Read name)) = FailsAt old new said.names name
Fills place said old new (Err fault.NoMemory) = GrowsUpTo old new said.names
Fills place said old new (Err fault.Ended) = ⊥

-- so over files that agree with what was answered in the call
abbrev pub FillsBy : {X : Type 0} → Place → (Files → Filling X) → List Answer → List Answer → Result X SessionFault → Type 0
FillsBy place said before now result =
    (files : Files) → AgreesSince files before now → Fills place (said files) (names_asked before) (names_asked now) result
