-- The files of load shapes: their numbers stand in place of their names.
use Rattle.std.specs.Prelude.{ℕ, ℤ, Bool, List, [], ◌∷◌, ◌++◌, codes, true, Option, Some, None, Result, Ok, Err, if◌then◌else◌}
use Rattle.dss_model.specs.dss_lexer.Answers.{◌>>=◌}
use Rattle.dss_model.specs.dss_lexer.declared.pair.Pair.{Pair}
use Rattle.dss_model.specs.dss_lexer.Texts.{text_eq}
use Rattle.dss_model.specs.Names.{bytes, lower}
use Rattle.dss_script.specs.ShapeFiles.{file_named}
use Rattle.dss_model.specs.declared.command.Verb.{Verb}
use Rattle.dss_model.specs.declared.command.Verb.TheVariants as verb
use Rattle.fd_outside.specs.Files.{Files, held}
use Rattle.fd_shape.specs.Column.{column_of}
use Rattle.fd_shape.specs.Text.{values_text}
use Rattle.dss_script.specs.declared.fault.ScriptCause.{ScriptCause}
use Rattle.dss_script.specs.declared.fault.ScriptCause.TheVariants as cause
use Rattle.dss_script.specs.Paths.{joined}

abbrev pub is_loadshape : List ℕ → Bool
is_loadshape class = text_eq (bytes (lower class)) (codes "loadshape")

-- ---- one file

-- a pair whose value is a group of these numbers, of which there is one at least
abbrev pub with_numbers : Pair → Result (List ℤ) ℕ → Result Pair ScriptCause
with_numbers pair (Err n) = Err cause.BadValue
with_numbers pair (Ok []) = Err cause.BadValue
with_numbers pair (Ok (value ∷ values)) =
    Ok (record { name = pair.name; value = values_text (value ∷ values); grouped = true })

-- a pair whose file was found so
abbrev pub with_file : Pair → Option (List ℕ) → Result Pair ScriptCause
with_file pair None = Err cause.AbsentFile
with_file pair (Some bs) = with_numbers pair (column_of bs)

-- ---- what is asked, and what comes of it

-- the names that are asked for in order, and what comes of their files, or the cause at the first that is refused
pub record Filling (X : Type 0) : Type 0 where
  pub names : List (List ℕ)
  pub filled : Result X ScriptCause

-- nothing is asked
abbrev pub as_written : {X : Type 0} → X → Filling X
as_written x = record { names = []; filled = Ok x }

-- this file is asked for
abbrev pub from_file : Files → Pair → List ℕ → Filling Pair
from_file files pair at = record { names = at ∷ []; filled = with_file pair (held files (bytes at)) }

abbrev pub pair_by_name : Files → List ℕ → Pair → Option (List ℕ) → Filling Pair
pair_by_name files folder pair None = as_written pair
pair_by_name files folder pair (Some name) = from_file files pair (joined folder name)

-- a pair of a load shape: `mult=file=NAME` asks for its file, and any other stays as it is
abbrev pub pair_filled : Files → List ℕ → Pair → Filling Pair
pair_filled files folder pair = pair_by_name files folder pair (file_named pair)

-- a pair, and those behind it
abbrev pub filled_before : List (List ℕ) → Result Pair ScriptCause → Filling (List Pair) → Filling (List Pair)
filled_before names (Err c) rest = record { names = names; filled = Err c }
filled_before names (Ok pair) rest =
    record { names = names ++ rest.names; filled = rest.filled >>= λ pairs. Ok (pair ∷ pairs) }

-- pairs in order, up to the first that is refused
abbrev pub pairs_filled : Files → List ℕ → List Pair → Filling (List Pair)
pairs_filled files folder [] = as_written []
pairs_filled files folder (pair ∷ pairs) =
    let first = pair_filled files folder pair in
    filled_before first.names first.filled (pairs_filled files folder pairs)

-- the pairs of an element of this class
abbrev pub class_filled : Files → List ℕ → List ℕ → List Pair → Filling (List Pair)
class_filled files folder class pairs = if is_loadshape class then pairs_filled files folder pairs else as_written pairs

abbrev pub with_pairs : (List Pair → Verb) → Filling (List Pair) → Filling Verb
with_pairs make f = record { names = f.names; filled = f.filled >>= λ pairs. Ok (make pairs) }

-- what a command does, with the numbers of the files that its pairs name
abbrev pub verb_filled : Files → List ℕ → Verb → Filling Verb
verb_filled files folder (verb.New class name pairs) =
    with_pairs (λ ps. verb.New class name ps) (class_filled files folder class pairs)
verb_filled files folder (verb.Edit class name pairs) =
    with_pairs (λ ps. verb.Edit class name ps) (class_filled files folder class pairs)
verb_filled files folder v = as_written v
