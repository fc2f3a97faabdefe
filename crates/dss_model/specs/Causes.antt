-- The cause that stands for a fault of a number's text.
use Rattle.std.specs.Prelude.{Result, Ok, Err}
use Rattle.dss_lexer.specs.declared.fault.NumberFault.{NumberFault}
use Rattle.dss_lexer.specs.declared.fault.NumberFault.TheVariants as number
use Rattle.dss_model.specs.declared.fault.ModelFault.{ModelFault}
use Rattle.dss_model.specs.declared.fault.ModelFault.TheVariants as fault

abbrev pub cause_of : NumberFault → ModelFault
cause_of number.BadNumber = fault.BadNumber
cause_of number.NumberTooLarge = fault.NumberTooLarge
cause_of number.BadPostfix = fault.BadPostfix
cause_of number.DivideByZero = fault.DivideByZero

abbrev pub from_lexer : {A : Type 0} → Result A NumberFault → Result A ModelFault
from_lexer (Ok x) = Ok x
from_lexer (Err e) = Err (cause_of e)
