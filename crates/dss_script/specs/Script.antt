-- What a script says: its commands with their places and the files that it asks for, in order, and how it ends.
use Rattle.std.specs.Prelude.{ℕ, suc, zero, ◌+◌, nat_lt, List, [], ◌∷◌, length, Option, Some, None, Result, Ok, Err, if◌then◌else◌}
use Rattle.std.specs.Str.Lines.{lines}
use Rattle.dss_model.specs.dss_lexer.declared.pair.Pair.{Pair}
use Rattle.dss_model.specs.dss_lexer.declared.fault.LineFault.{LineFault}
use Rattle.dss_script.specs.Cutting.{pairs_of}
use Rattle.dss_model.specs.Names.{bytes}
use Rattle.dss_model.specs.declared.command.Place.{Place}
use Rattle.dss_model.specs.declared.command.Command.{Command}
use Rattle.dss_model.specs.declared.command.Verb.{Verb}
use Rattle.fd_outside.specs.Files.{Files, held}
use Rattle.dss_script.specs.declared.fault.ScriptCause.{ScriptCause}
use Rattle.dss_script.specs.declared.fault.ScriptCause.TheVariants as cause
use Rattle.dss_script.specs.declared.meaning.Target.{Target}
use Rattle.dss_script.specs.declared.meaning.Meaning.{Meaning}
use Rattle.dss_script.specs.declared.meaning.Meaning.TheVariants as the
use Rattle.dss_script.specs.Meaning.{cause_of, meaning_of, target_after}
use Rattle.dss_script.specs.Paths.{folder_of, joined}
use Rattle.dss_script.specs.Shapes.{verb_filled}

-- a script is the end of MASTER, or a cause at a place, or a name that is asked for or a command, and then more
pub data Script : Type 0 where
  finished : Script
  refused : Place → ScriptCause → Script
  asks : List ℕ → Script → Script
  gives : Command → Script → Script

-- what one line leaves to the next: the element that `~` goes on with, and the bytes of all files read so far
pub record Standing : Type 0 where
  pub target : Option Target
  pub read : ℕ

-- how a script goes on
abbrev pub Then : Type 0
Then = Standing → Script

-- what comes of a file's name at a place
abbrev pub Reader : Type 0
Reader = Place → List ℕ → Standing → Then → Script

-- names that are asked for one after another
abbrev pub asks_each : List (List ℕ) → Script → Script
asks_each [] script = script
asks_each (name ∷ names) script = asks name (asks_each names script)

-- a command, unless a file that it names is refused
abbrev pub given : Place → Result Verb ScriptCause → Script → Script
given place (Ok verb) script = gives (record { place = place; verb = verb }) script
given place (Err c) script = refused place c

-- a command asks for the files of its load shape, and is given with their numbers
abbrev pub command_says : Files → List ℕ → Command → Script → Script
command_says files folder command script =
    let f = verb_filled files folder command.verb in asks_each f.names (given command.place f.filled script)

-- what a line asks for, and what comes after it
abbrev pub meaning_says : Files → Reader → List ℕ → Place → Meaning → Standing → Then → Script
meaning_says files reader folder place the.Nothing standing go = go standing
meaning_says files reader folder place (the.Refused c) standing go = refused place c
meaning_says files reader folder place (the.Reads name) standing go = reader place (joined folder name) standing go
meaning_says files reader folder place (the.Does verb change) standing go =
    command_says files folder (record { place = place; verb = verb })
    (go (record { target = target_after standing.target change; read = standing.read }))

abbrev pub line_says : Files → Reader → List ℕ → Place → Result (List Pair) LineFault → Standing → Then → Script
line_says files reader folder place (Err e) standing go = refused place (cause_of e)
line_says files reader folder place (Ok pairs) standing go =
    meaning_says files reader folder place (meaning_of standing.target pairs) standing go

-- lines of a file, of which so many went before
abbrev pub lines_say : Files → Reader → List ℕ → List ℕ → ℕ → List (List ℕ) → Standing → Then → Script
lines_say files reader folder file n [] standing go = go standing
lines_say files reader folder file n (line ∷ rest) standing go =
    line_says files reader folder (record { file = file; line = n + 1 }) (pairs_of line) standing
    (λ s. lines_say files reader folder file (n + 1) rest s go)

-- a file that is there, unless the script gets too long by it
abbrev pub found_says : Files → Reader → List ℕ → Option (List ℕ) → Place → List ℕ → Standing → Then → Script
found_says files reader folder None place name standing go = refused place cause.AbsentFile
found_says files reader folder (Some bs) place name standing go =
    if nat_lt 1_048_576 (standing.read + length bs) then refused place cause.TooLong
    else lines_say files reader folder name 0 (lines bs)
    (record { target = standing.target; read = standing.read + length bs }) go

-- a file, where so many files may be open within it
abbrev pub file_says : Files → List ℕ → ℕ → Reader
file_says files folder zero place name standing go = refused place cause.TooDeep
file_says files folder (suc depth) place name standing go =
    asks name
    (found_says files (λ p n s g. file_says files folder depth p n s g) folder (held files (bytes name)) place name standing go)

-- MASTER, within which eight files may be open; for MASTER itself the line is 0
abbrev pub script_of : Files → List ℕ → Script
script_of files master = file_says files (folder_of master) 9 (record { file = master; line = 0 }) master (record { target = None; read = 0 }) (λ s. finished)

-- the names that are asked for before the first command or the end
abbrev pub names_first : Script → List (List ℕ)
names_first finished = []
names_first (refused place c) = []
names_first (asks name script) = name ∷ names_first script
names_first (gives command script) = []

-- the first command and what comes after it, or the end
abbrev pub after_names : Script → Script
after_names finished = finished
after_names (refused place c) = refused place c
after_names (asks name script) = after_names script
after_names (gives command script) = gives command script
