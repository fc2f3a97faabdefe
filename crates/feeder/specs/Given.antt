-- The words that a command line gives.
use Rattle.std.specs.Prelude.{ℕ, List, [], map, drop, string_bytes, Result, Ok, Err}
use Rattle.std.specs.Vec.Iter.{into_iter_items}
use Rattle.std.specs.IoError.{error_kind}
use Rattle.std.specs.declared.io.Error.{Error}
use Rattle.std.specs.declared.io.ErrorKind.{ErrorKind}
use Rattle.std.specs.declared.io.ErrorKind.TheVariants.{OutOfMemory}
use Rattle.std.specs.declared.string.String.{String}
use Rattle.std.specs.declared.vec.IntoIter.{IntoIter}

-- words, as their bytes, or the system had no memory for them
pub data Given : Type 0 where
  words : List (List ℕ) → Given
  no_memory : Given

-- words that are no text are given as none, which is no form of a command line
abbrev pub given_at : ErrorKind → Given
given_at OutOfMemory = no_memory
given_at kind = words []

-- the words behind the program's name
abbrev pub given : {A : Type 0} → Result (IntoIter (String A) A) Error → Given
given (Ok args) = words (map string_bytes (drop 1 (into_iter_items args)))
given (Err e) = given_at (error_kind e)
