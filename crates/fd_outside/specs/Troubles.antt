-- What errors of the system come to.
use Rattle.std.specs.Prelude.{ℕ, zero, suc, Bool, true, false, Result, Ok, Err}
use Rattle.std.specs.IoError.{error_kind}
use Rattle.std.specs.declared.io.Error.{Error}
use Rattle.std.specs.declared.io.ErrorKind.{ErrorKind}
use Rattle.std.specs.declared.io.ErrorKind.TheVariants.{Interrupted, NotFound, OutOfMemory}
use Rattle.fd_outside.specs.declared.system.Trouble.{Trouble}
use Rattle.fd_outside.specs.declared.system.Trouble.TheVariants as trouble

abbrev pub trouble_in : ErrorKind → Trouble
trouble_in Interrupted = trouble.Interrupted
trouble_in NotFound = trouble.Missing
trouble_in OutOfMemory = trouble.NoMemory
trouble_in kind = trouble.Other

abbrev pub untroubled : {T : Type 0} → Result T Error → Result T Trouble
untroubled (Ok x) = Ok x
untroubled (Err e) = Err (trouble_in (error_kind e))

-- a call that was interrupted is tried again
abbrev pub is_fatal : Trouble → Bool
is_fatal trouble.Interrupted = false
is_fatal trouble.Missing = true
is_fatal trouble.NoMemory = true
is_fatal trouble.Other = true

-- how a tape has it
abbrev pub trouble_at : ℕ → Trouble
trouble_at zero = trouble.Interrupted
trouble_at (suc zero) = trouble.Missing
trouble_at (suc (suc zero)) = trouble.NoMemory
trouble_at (suc (suc (suc n))) = trouble.Other
