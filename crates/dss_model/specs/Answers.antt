-- What a call answers, and what a definition says.
use Rattle.std.specs.Prelude.{Option, Some, None, Result}
use Rattle.dss_model.specs.declared.fault.ModelFault.{ModelFault}
use Rattle.dss_model.specs.declared.fault.ModelError.{ModelError}
use Rattle.dss_model.specs.declared.fault.ModelError.TheVariants as error
use Rattle.dss_lexer.specs.declared.fault.NumberFault.{NumberFault}
use Rattle.dss_lexer.specs.declared.fault.LexError.{LexError}
use Rattle.dss_lexer.specs.declared.fault.LexError.TheVariants as lex
use Rattle.dss_model.specs.Causes.{cause_of}
use Rattle.fd_arith.specs.fd_exact.Answers as answers
pub use Rattle.fd_arith.specs.fd_exact.Answers.{or_fault, each}
pub use Rattle.fd_arith.specs.fd_exact.Results.{◌>>=◌}

-- the fault of an error, unless memory ran out
abbrev pub fault_of : ModelError → Option ModelFault
fault_of (error.Fault cause) = Some cause
fault_of error.NoMemory = None

abbrev pub Fails : {Y : Type 0} → ModelError → Result Y ModelFault → Type 0
Fails = answers.Fails fault_of

abbrev pub Gives : {X Y : Type 0} → (X → Y) → Result X ModelError → Result Y ModelFault → Type 0
Gives = answers.Gives fault_of

abbrev pub Makes : {X : Type 0} → X → Result Unit ModelError → Result X ModelFault → Type 0
Makes = answers.Makes fault_of

-- the error of a call that passes on an error of the lexer
abbrev pub error_of : LexError NumberFault → ModelError
error_of (lex.Fault fault) = error.Fault (cause_of fault)
error_of lex.NoMemory = error.NoMemory
