-- Where a session stands in its script, and what a call gives.
use Rattle.std.specs.Prelude.{◌≡◌, ℕ, ◌+◌, ◌-◌, ◌*◌, ◌≤◌, ◌<◌, nat_lt, ◌==◌, List, [], ◌∷◌, ◌++◌, length, map, Option, Some, None, Result, Ok, Err, Bool, true, false, if◌then◌else◌, max}
use Rattle.std.specs.Str.Lines.{lines}
use Rattle.dss_model.specs.Names.{bytes}
use Rattle.dss_model.specs.declared.command.Place.{Place}
use Rattle.dss_model.specs.declared.command.Command.{Command}
use Rattle.fd_outside.specs.Files.{Files, held}
use Rattle.fd_outside.specs.Answers.{Answer, EndsFailed}
use Rattle.fd_outside.specs.declared.library.Found.{Found}
use Rattle.fd_outside.specs.declared.library.Found.TheVariants as found
use Rattle.dss_script.specs.declared.fault.ScriptCause.TheVariants as cause
use Rattle.dss_script.specs.declared.fault.SessionFault.{SessionFault}
use Rattle.dss_script.specs.declared.fault.SessionFault.TheVariants as fault
use Rattle.dss_script.specs.declared.session.Turn.{Turn}
use Rattle.dss_script.specs.declared.session.Turn.TheVariants as turn
use Rattle.dss_model.specs.dss_lexer.declared.pair.Pair.{Pair}
use Rattle.dss_model.specs.dss_lexer.declared.fault.LineFault.{LineFault}
use Rattle.dss_script.specs.Cutting.{pairs_of}
use Rattle.dss_model.specs.declared.command.Verb.{Verb}
use Rattle.dss_model.specs.declared.command.Verb.TheVariants as verb
use Rattle.dss_script.specs.declared.meaning.Meaning.{Meaning}
use Rattle.dss_script.specs.declared.reading.Taken.{Taken}
use Rattle.dss_script.specs.declared.reading.Taken.TheVariants as taken
use Rattle.dss_script.specs.declared.meaning.Meaning.TheVariants as the
use Rattle.dss_script.specs.Meaning.{cause_of, meaning_of}
use Rattle.dss_script.specs.Readings.{Reading, next_line, advanced}
use Rattle.dss_script.specs.Paths.{folder_of}
use Rattle.dss_script.specs.Script.{Script, finished, refused, asks, gives, Standing, command_says, meaning_says, lines_say, file_says, names_first, after_names}

-- a session: MASTER until it is read, its folder, the open files with the innermost first, and what lines leave to the next
pub record State : Type 0 where
  pub waiting : Option (List ℕ)
  pub folder : List ℕ
  pub files : List Reading
  pub standing : Standing
  pub ended : Bool

abbrev pub start : List ℕ → State
start master = record { waiting = Some master; folder = folder_of master; files = []; standing = record { target = None; read = 0 }; ended = false }

-- how many files may yet be open within these
abbrev pub deeper : List Reading → ℕ
deeper [] = 9
deeper (r ∷ outer) = deeper outer - 1

-- what the open files say, from the innermost outward
abbrev pub files_say : Files → List ℕ → List Reading → Standing → Script
files_say files folder [] standing = finished
files_say files folder (r ∷ outer) standing =
    lines_say files (λ p n s g. file_says files folder (deeper (r ∷ outer)) p n s g) folder r.file r.line r.lines standing
    (λ s. files_say files folder outer s)

abbrev pub waiting_says : Files → Option (List ℕ) → State → Script
waiting_says files None state = files_say files state.folder state.files state.standing
waiting_says files (Some master) state =
    file_says files state.folder (deeper state.files) (record { file = master; line = 0 }) master state.standing
    (λ s. files_say files state.folder state.files s)

-- a session once MASTER's name is taken
abbrev pub opened : State → State
opened state = record { waiting = None; folder = state.folder; files = state.files; standing = state.standing; ended = state.ended }

-- what is left of the script
unfoldable pub remaining : Files → State → Script
remaining files state = waiting_says files state.waiting state

-- a file that was entered
abbrev pub entered : State → List ℕ → List ℕ → State
entered state name bs = record {
  waiting = state.waiting;
  folder = state.folder;
  files = record { file = name; line = 0; lines = lines bs } ∷ state.files;
  standing = record { target = state.standing.target; read = state.standing.read + length bs };
  ended = state.ended;
}

-- the script that is left where a file was found so
unfoldable pub remaining_with : Files → Option (List ℕ) → Place → List ℕ → State → Script
remaining_with files None place name state = refused place cause.AbsentFile
remaining_with files (Some bs) place name state = if nat_lt 1_048_576 (state.standing.read + length bs) then refused place cause.TooLong
    else remaining files (entered state name bs)

-- what the next line is: the end of its file, a line that is refused, or words and pairs
abbrev pub next_place : Reading → Place
next_place r = record { file = r.file; line = r.line + 1 }

abbrev pub cut_into : Place → Result (List Pair) LineFault → Taken
cut_into place (Err e) = taken.Refused place (cause_of e)
cut_into place (Ok pairs) = taken.Cut place pairs

abbrev pub taken_of : List Reading → Taken
taken_of [] = taken.Closed
taken_of (r ∷ outer) = if length r.lines == 0 then taken.Closed else cut_into (next_place r) (pairs_of (next_line r))

-- the files after that
abbrev pub files_after : List Reading → List Reading
files_after [] = []
files_after (r ∷ outer) = if length r.lines == 0 then outer else advanced r ∷ outer

-- what is left of the script where a line asks for this
unfoldable pub remaining_by : Files → Place → Meaning → State → Script
remaining_by files place meaning state =
    meaning_says files (λ p n s g. file_says files state.folder (deeper state.files) p n s g) state.folder place meaning
    state.standing
    (λ s. files_say files state.folder state.files s)

-- how much may still be read: each line that is left with its line feed, and each byte that further files may have
abbrev pub lines_room : List (List ℕ) → ℕ
lines_room [] = 0
lines_room (line ∷ rest) = length line + 1 + lines_room rest

abbrev pub files_room : List Reading → ℕ
files_room [] = 0
files_room (r ∷ outer) = lines_room r.lines + files_room outer

abbrev pub waits : Option (List ℕ) → ℕ
waits None = 0
waits (Some master) = 2

abbrev pub room : State → ℕ
room state = waits state.waiting + (files_room state.files + (1_048_576 - state.standing.read))

abbrev pub left : State → ℕ
left state = 2 * room state + length state.files

-- the least room that a command's line takes: its words, and a separator or a line feed behind each; a name has a letter at least
abbrev pub cost : Verb → ℕ
cost (verb.New class name pairs) = 6 + (length class + max (length name) 1)
cost (verb.Solve pairs) = 6
cost v = 2

-- the room that words and pairs take
abbrev pub paid : List Pair → ℕ
paid [] = 0
paid (p ∷ ps) = length p.name + length p.value + 1 + paid ps

-- the least room of a line that asks for this
abbrev pub price : Meaning → ℕ
price the.Nothing = 1
price (the.Refused c) = 0
price (the.Reads name) = 2
price (the.Does v change) = cost v

-- the least room of the line that is taken
abbrev pub pays : Taken → ℕ
pays taken.Closed = 0
pays (taken.Refused place c) = 0
pays (taken.Cut place pairs) = max (paid pairs) 1

abbrev pub closes : Taken → ℕ
closes taken.Closed = 1
closes t = 0

-- what a step takes of this room, and that there is less to do
abbrev pub Spends : ℕ → ℕ → State → Result Turn SessionFault → Type 0
Spends space todo new (Ok (turn.Gives command)) = room new + cost command.verb ≤ space
Spends space todo new (Ok turn.Goes) = (room new ≤ space) × (left new < todo)
Spends space todo new (Ok (turn.Reads place name)) = (room new + 1 ≤ space) × (left new + 4 ≤ todo)
Spends space todo new (Ok turn.Ends) = room new ≤ space
Spends space todo new (Err e) = Unit {0}

-- what is left of the script after a line is taken so
unfoldable pub taken_says : Files → Taken → State → Script
taken_says files taken.Closed state = remaining files state
taken_says files (taken.Refused place c) state = refused place c
taken_says files (taken.Cut place pairs) state = remaining_by files place (meaning_of state.standing.target pairs) state

-- MASTER waits only where no file is open
abbrev pub is_fresh : {X Y : Type 0} → Option X → List Y → Bool
is_fresh None files = true
is_fresh (Some master) files = length files == 0

-- one step within the open files has done what the script says
abbrev pub Steps : Files → Script → State → Result Turn SessionFault → Type 0
Steps files said new (Ok (turn.Gives command)) = said ≡ command_says files new.folder command (remaining files new)
Steps files said new (Ok turn.Goes) = said ≡ remaining files new
Steps files said new (Ok (turn.Reads place name)) = said ≡ asks name (remaining_with files (held files (bytes name)) place name new)
Steps files said new (Ok turn.Ends) = (said ≡ finished) × (remaining files new ≡ finished)
Steps files said new (Err (fault.Script place c)) = said ≡ refused place c
Steps files said new (Err e) = Unit {0}

-- what was found, as what a library holds
abbrev pub found_bytes : Found → Option (List ℕ)
found_bytes (found.Bytes bs) = Some bs.items
found_bytes found.Absent = None

-- a file was entered as the script says
abbrev pub Enters : Files → Script → State → Result Unit SessionFault → Type 0
Enters files said new (Ok done) = said ≡ remaining files new
Enters files said new (Err (fault.Script place c)) = said ≡ refused place c
Enters files said new (Err e) = Unit {0}

-- what a call of `next` gives is what the script says after the names that it asks for first
abbrev pub Tells : Files → Script → State → Result (Option Command) SessionFault → Type 0
Tells files said new (Ok (Some command)) = said ≡ gives command (remaining files new)
Tells files said new (Ok None) = (said ≡ finished) × (remaining files new ≡ finished)
Tells files said new (Err (fault.Script place c)) = said ≡ refused place c
Tells files said new (Err e) = Unit {0}

-- the names that were asked grow by these
abbrev pub Grows : List (List ℕ) → List (List ℕ) → List (List ℕ) → Type 0
Grows old new names = new ≡ old ++ map bytes names

-- the names that were asked grow by the first of these
pub record GrowsUpTo (old new : List (List ℕ)) (names : List (List ℕ)) : Type 0 where
  pub front : List (List ℕ)
  pub rest : List (List ℕ)
  pub parts : names ≡ front ++ rest
  pub grown : Grows old new front

-- the names that were asked grow by the first of these up to and with this one, whose read failed
pub record FailsAt (old new : List (List ℕ)) (names : List (List ℕ)) (name : List ℕ) : Type 0 where
  pub front : List (List ℕ)
  pub rest : List (List ℕ)
  pub parts : names ≡ front ++ name ∷ rest
  pub grown : Grows old new (front ++ name ∷ [])

-- a call asks for these names; where a read fails, for the first of them up to the name that failed, and for the first of
-- them where memory runs out
abbrev pub Asks : {X : Type 0} → List (List ℕ) → List (List ℕ) → List (List ℕ) → Result X SessionFault
    → Type 0
Asks old new names (Err (fault.Read name)) = FailsAt old new names name
Asks old new names (Err fault.NoMemory) = GrowsUpTo old new names
Asks old new names (Err fault.Ended) = new ≡ old
Asks old new names r = Grows old new names

-- a failed read is the last answer, and its name is that of its file
abbrev pub ReadsLast : {X : Type 0} → List Answer → List Answer → Result X SessionFault → Type 0
ReadsLast old new (Err (fault.Read name)) = EndsFailed old new (bytes name)
ReadsLast old new r = Unit {0}

-- a failed read
abbrev pub IsRead : {X : Type 0} → Result X SessionFault → Type 0
IsRead (Err (fault.Read name)) = Unit {0}
IsRead r = ⊥

-- an entered file was asked, unless memory ran out
abbrev pub EnterAsks : List (List ℕ) → List (List ℕ) → List ℕ → Result Unit SessionFault → Type 0
EnterAsks old new name (Err fault.NoMemory) = GrowsUpTo old new (name ∷ [])
EnterAsks old new name r = Grows old new (name ∷ [])

-- a command takes its room
abbrev pub Pays : State → State → Result (Option Command) SessionFault → Type 0
Pays old new (Ok (Some command)) = room new + cost command.verb ≤ room old
Pays old new (Ok None) = room new ≤ room old
Pays old new (Err e) = Unit {0}

-- the script that is left within a call, and the one that it began with: nothing but names came between
pub record Reached (from now : Script) (old new : List (List ℕ)) : Type 0 where
  pub names : List (List ℕ)
  pub first : names_first from ≡ names ++ names_first now
  pub said : after_names from ≡ after_names now
  pub grown : Grows old new names

-- any answer but Ended
abbrev pub IsNotEnded : {X : Type 0} → Result X SessionFault → Type 0
IsNotEnded (Err fault.Ended) = ⊥
IsNotEnded r = Unit {0}

-- a failed read is that of this name
abbrev pub IsReadOf : {X : Type 0} → List ℕ → Result X SessionFault → Type 0
IsReadOf name (Err (fault.Read n)) = n ≡ name
IsReadOf name r = Unit {0}
