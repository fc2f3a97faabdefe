-- What a line of a script asks for.
use Rattle.std.specs.Prelude.{ℕ, ◌==◌, Bool, true, false, ◌||◌, ◌&&◌, not, List, [], ◌∷◌, Option, Some, None, if◌then◌else◌, codes}
use Rattle.std.specs.List.{slice_split, before_first, after_first}
use Rattle.dss_model.specs.dss_lexer.declared.pair.Pair.{Pair}
use Rattle.dss_model.specs.dss_lexer.declared.fault.LineFault.{LineFault}
use Rattle.dss_model.specs.dss_lexer.declared.fault.LineFault.TheVariants as line
use Rattle.dss_model.specs.dss_lexer.Texts.{is_empty, text_eq}
use Rattle.dss_model.specs.Names.{named, bytes, lower, is_name}
use Rattle.dss_model.specs.declared.command.Verb.TheVariants as verb
use Rattle.dss_script.specs.declared.fault.ScriptCause.{ScriptCause}
use Rattle.dss_script.specs.declared.fault.ScriptCause.TheVariants as cause
use Rattle.dss_script.specs.declared.meaning.Target.{Target}
use Rattle.dss_script.specs.declared.meaning.Change.{Change}
use Rattle.dss_script.specs.declared.meaning.Change.TheVariants as change
use Rattle.dss_script.specs.declared.meaning.Meaning.{Meaning}
use Rattle.dss_script.specs.declared.meaning.Meaning.TheVariants as the
use Rattle.dss_script.specs.declared.meaning.CommandWord.{CommandWord}
use Rattle.dss_script.specs.declared.meaning.CommandWord.TheVariants as word

-- the words that begin a command
abbrev pub command_words : List (List ℕ × CommandWord)
command_words =
    (codes "new", word.New)
    ∷ (codes "edit", word.Edit)
    ∷ (codes "~", word.More)
    ∷ (codes "more", word.More)
    ∷ (codes "set", word.Set)
    ∷ (codes "solve", word.Solve)
    ∷ (codes "clear", word.Clear)
    ∷ (codes "clearall", word.Clear)
    ∷ (codes "redirect", word.Redirect)
    ∷ (codes "compile", word.Redirect)
    ∷ (codes "calcvoltagebases", word.Bases)
    ∷ (codes "calcv", word.Bases)
    ∷ (codes "show", word.Ignored)
    ∷ (codes "export", word.Ignored)
    ∷ (codes "plot", word.Ignored)
    ∷ (codes "visualize", word.Ignored)
    ∷ (codes "buscoords", word.Ignored)
    ∷ []

-- the cause that stands for a fault of a line
abbrev pub cause_of : LineFault → ScriptCause
cause_of line.UnclosedGroup = cause.UnclosedGroup
cause_of line.LineTooLong = cause.LineTooLong
cause_of line.NotText = cause.NotText

abbrev pub is_dot : ℕ → Bool
is_dot c = c == 46

-- a word is a pair with an empty name
abbrev pub is_word : Pair → Bool
is_word p = is_empty p.name

-- the element that is written as `Class.Name`, in a word, or for New also behind `object=`
abbrev pub subject : Bool → List Pair → List ℕ
subject is_new [] = []
subject is_new (p ∷ ps) = if is_word p || (is_new && text_eq (bytes (lower p.name)) (codes "object")) then p.value else []

abbrev pub others : List Pair → List Pair
others [] = []
others (p ∷ ps) = ps

-- the class stands before the first dot and isn't empty, and what stands after it is a name
abbrev pub element_of : List ℕ → Option Target
element_of text = let class = before_first is_dot text in let name = after_first is_dot text in
    if is_empty class || not (is_name name) then None else Some (record { class = class; name = name })

abbrev pub is_circuit : List ℕ → Bool
is_circuit class = text_eq (bytes (lower class)) (codes "circuit")

-- after New Circuit, `~` goes on with its source
abbrev pub made : Target → Target
made t = if is_circuit t.class then record { class = codes "vsource"; name = codes "source" } else t

abbrev pub new_element : Option Target → List Pair → Meaning
new_element None pairs = the.Refused cause.BadValue
new_element (Some t) pairs = the.Does (verb.New t.class t.name pairs) (change.Taken (made t))

abbrev pub edited_element : Option Target → List Pair → Meaning
edited_element None pairs = the.Refused cause.BadValue
edited_element (Some t) pairs = the.Does (verb.Edit t.class t.name pairs) (change.Taken t)

abbrev pub continued : Option Target → List Pair → Meaning
continued None pairs = the.Refused cause.ContinuesNothing
continued (Some t) pairs = the.Does (verb.Edit t.class t.name pairs) change.Kept

-- the first word is the file's name
abbrev pub file_in : List Pair → Meaning
file_in [] = the.Refused cause.BadValue
file_in (p ∷ ps) = if is_word p && not (is_empty p.value) then the.Reads p.value else the.Refused cause.BadValue

-- a command, by its first word and what follows it
abbrev pub command_of : Option CommandWord → Option Target → List Pair → Meaning
command_of None target pairs = the.Refused cause.UnknownCommand
command_of (Some word.New) target pairs = new_element (element_of (subject true pairs)) (others pairs)
command_of (Some word.Edit) target pairs = edited_element (element_of (subject false pairs)) (others pairs)
command_of (Some word.More) target pairs = continued target pairs
command_of (Some word.Set) target pairs = the.Does (verb.Set pairs) change.Kept
command_of (Some word.Solve) target pairs = the.Does (verb.Solve pairs) change.Kept
command_of (Some word.Clear) target pairs = the.Does verb.Clear change.Dropped
command_of (Some word.Bases) target pairs = the.Does verb.Bases change.Kept
command_of (Some word.Redirect) target pairs = file_in pairs
command_of (Some word.Ignored) target pairs = the.Nothing

-- a pair of an element, set before the pairs behind it
abbrev pub property_set : List ℕ → List ℕ → List ℕ → Pair → List Pair → Meaning
property_set class name property p ps =
    if is_empty class || (is_empty name || is_empty property) then the.Refused cause.UnknownCommand
    else if is_name name then the.Does (verb.Edit class name (record { name = property; value = p.value; grouped = p.grouped } ∷ ps)) change.Kept
    else the.Refused cause.BadValue

-- `Class.Name.Prop=value`, with nothing empty
abbrev pub property_of : List (List ℕ) → Pair → List Pair → Meaning
property_of (class ∷ name ∷ property ∷ []) p ps = property_set class name property p ps
property_of parts p ps = the.Refused cause.UnknownCommand

-- what the words and pairs of a line ask for
abbrev pub meaning_of : Option Target → List Pair → Meaning
meaning_of target [] = the.Nothing
meaning_of target (p ∷ ps) = if is_word p then command_of (named command_words (bytes (lower p.value))) target ps
    else property_of (slice_split is_dot p.name) p ps

-- the element that `~` goes on with after a command
abbrev pub target_after : Option Target → Change → Option Target
target_after target change.Kept = target
target_after target change.Dropped = None
target_after target (change.Taken t) = Some t
