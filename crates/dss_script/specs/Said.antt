-- What a script says, as a list of events and an end.
use Rattle.std.specs.Prelude.{ℕ, suc, zero, ◌+◌, nat_lt, List, [], ◌∷◌, ◌++◌, length, map, Option, Some, None, Result, Ok, Err, if◌then◌else◌}
use Rattle.std.specs.Str.Lines.{lines}
use Rattle.dss_model.specs.dss_lexer.declared.pair.Pair.{Pair}
use Rattle.dss_model.specs.dss_lexer.declared.fault.LineFault.{LineFault}
use Rattle.dss_script.specs.Cutting.{pairs_of}
use Rattle.dss_model.specs.Names.{bytes}
use Rattle.dss_model.specs.declared.command.Place.{Place}
use Rattle.dss_model.specs.declared.command.Command.{Command}
use Rattle.dss_model.specs.declared.command.Verb.{Verb}
use Rattle.fd_outside.specs.Files.{Files, held}
use Rattle.dss_script.specs.declared.fault.ScriptCause.{ScriptCause}
use Rattle.dss_script.specs.declared.fault.ScriptCause.TheVariants as cause
use Rattle.dss_script.specs.declared.meaning.Meaning.{Meaning}
use Rattle.dss_script.specs.declared.meaning.Meaning.TheVariants as the
use Rattle.dss_script.specs.Meaning.{cause_of, meaning_of, target_after}
use Rattle.dss_script.specs.Paths.{folder_of, joined}
use Rattle.dss_script.specs.Script.{Script, finished, refused, asks, gives, Standing}
use Rattle.dss_script.specs.Shapes.{verb_filled}

-- a name is asked for, or a command is given
pub data Said : Type 0 where
  name : List ℕ → Said
  command : Command → Said

-- what a part of a script says, and what it leaves to the part behind it, or why the script ends in it
pub record Part : Type 0 where
  pub said : List Said
  pub left : Result Standing (Place × ScriptCause)

abbrev pub silent : Standing → Part
silent standing = record { said = []; left = Ok standing }

abbrev pub stops : Place → ScriptCause → Part
stops place c = record { said = []; left = Err (place, c) }

abbrev pub says : List Said → Part → Part
says said p = record { said = said ++ p.said; left = p.left }

abbrev pub by_left : List Said → Result Standing (Place × ScriptCause) → (Standing → Part) → Part
by_left said (Ok standing) next = says said (next standing)
by_left said (Err refusal) next = record { said = said; left = Err refusal }

-- a part, and the part behind it
abbrev pub followed : Part → (Standing → Part) → Part
followed p next = by_left p.said p.left next

abbrev pub File : Type 0
File = Place → List ℕ → Standing → Part

-- a command, unless a file that it names is refused
abbrev pub by_filled : Place → Result Verb ScriptCause → Standing → Part
by_filled place (Ok verb) standing = says (command (record { place = place; verb = verb }) ∷ []) (silent standing)
by_filled place (Err c) standing = stops place c

-- a command asks for the files of its load shape, and is given with their numbers
abbrev pub by_command : Files → List ℕ → Command → Standing → Part
by_command files folder c standing =
    let f = verb_filled files folder c.verb in says (map name f.names) (by_filled c.place f.filled standing)

abbrev pub by_meaning : Files → File → List ℕ → Place → Meaning → Standing → Part
by_meaning files file folder place the.Nothing standing = silent standing
by_meaning files file folder place (the.Refused c) standing = stops place c
by_meaning files file folder place (the.Reads named) standing = file place (joined folder named) standing
by_meaning files file folder place (the.Does verb change) standing =
    by_command files folder (record { place = place; verb = verb })
    (record { target = target_after standing.target change; read = standing.read })

abbrev pub by_line : Files → File → List ℕ → Place → Result (List Pair) LineFault → Standing → Part
by_line files file folder place (Err e) standing = stops place (cause_of e)
by_line files file folder place (Ok pairs) standing =
    by_meaning files file folder place (meaning_of standing.target pairs) standing

-- lines of a file, of which so many went before
abbrev pub by_lines : Files → File → List ℕ → List ℕ → ℕ → List (List ℕ) → Standing → Part
by_lines files file folder at n [] standing = silent standing
by_lines files file folder at n (line ∷ rest) standing =
    followed (by_line files file folder (record { file = at; line = n + 1 }) (pairs_of line) standing)
    (λ s. by_lines files file folder at (n + 1) rest s)

-- a file that is there, unless the script gets too long by it
abbrev pub by_found : Files → File → List ℕ → Option (List ℕ) → Place → List ℕ → Standing → Part
by_found files file folder None place at standing = stops place cause.AbsentFile
by_found files file folder (Some bs) place at standing =
    if nat_lt 1_048_576 (standing.read + length bs) then stops place cause.TooLong
    else by_lines files file folder at 0 (lines bs)
    (record { target = standing.target; read = standing.read + length bs })

-- a file, where so many files may be open within it
abbrev pub by_file : Files → List ℕ → ℕ → File
by_file files folder zero place at standing = stops place cause.TooDeep
by_file files folder (suc depth) place at standing =
    says (name at ∷ [])
    (by_found files (λ p n s. by_file files folder depth p n s) folder (held files (bytes at)) place at standing)

-- MASTER and all that it redirects to
abbrev pub said_of : Files → List ℕ → Part
said_of files master = by_file files (folder_of master) 9 (record { file = master; line = 0 }) master (record { target = None; read = 0 })

-- ---- as a chain

abbrev pub chained : List Said → Script → Script
chained [] rest = rest
chained (name n ∷ said) rest = asks n (chained said rest)
chained (command c ∷ said) rest = gives c (chained said rest)

abbrev pub goes_on : Result Standing (Place × ScriptCause) → (Standing → Script) → Script
goes_on (Ok standing) go = go standing
goes_on (Err refusal) go = refused refusal.0 refusal.1

abbrev pub chain_of : Part → Script
chain_of p = chained p.said (goes_on p.left (λ s. finished))

-- ---- its end

-- a script is done to its end, or refused
pub data ScriptEnd : Type 0 where
  at_its_end : ScriptEnd
  refused_at : Place → ScriptCause → ScriptEnd

abbrev pub ended_by : Result Standing (Place × ScriptCause) → ScriptEnd
ended_by (Ok standing) = at_its_end
ended_by (Err refusal) = refused_at refusal.0 refusal.1

-- what a chain says, and how it ends
abbrev pub said_in : Script → List Said
said_in finished = []
said_in (refused place c) = []
said_in (asks n script) = name n ∷ said_in script
said_in (gives c script) = command c ∷ said_in script

abbrev pub end_in : Script → ScriptEnd
end_in finished = at_its_end
end_in (refused place c) = refused_at place c
end_in (asks n script) = end_in script
end_in (gives c script) = end_in script
