-- What a call answers, and what a definition says.
use Rattle.std.specs.Prelude.{Option, Some, None, Result}
use Rattle.dss_lexer.specs.declared.fault.LexError.{LexError}
use Rattle.dss_lexer.specs.declared.fault.LexError.TheVariants as error
use Rattle.fd_exact.specs.Answers as answers
pub use Rattle.fd_exact.specs.Answers.{each}
pub use Rattle.fd_exact.specs.Results.{◌>>=◌}

-- the fault of an error, unless memory ran out
abbrev pub fault_of : {F : Type 0} → LexError F → Option F
fault_of (error.Fault fault) = Some fault
fault_of error.NoMemory = None

abbrev pub Fails : {Y F : Type 0} → LexError F → Result Y F → Type 0
Fails = answers.Fails fault_of

abbrev pub Gives : {X Y F : Type 0} → (X → Y) → Result X (LexError F) → Result Y F → Type 0
Gives = answers.Gives fault_of

abbrev pub Makes : {X F : Type 0} → X → Result Unit (LexError F) → Result X F → Type 0
Makes = answers.Makes fault_of
