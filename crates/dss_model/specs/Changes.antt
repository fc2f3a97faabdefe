-- What a change of a value answers, and what a definition says.
use Rattle.std.specs.Prelude.{Result}
use Rattle.dss_model.specs.declared.fault.ModelError.{ModelError}
use Rattle.dss_model.specs.declared.fault.ModelFault.{ModelFault}
use Rattle.dss_model.specs.Answers.{fault_of}
use Rattle.fd_arith.specs.fd_exact.Answers as answers

-- a value has become what is said, and after a refusal is as before
abbrev pub Becomes : {X : Type 0} → X → X → Result Unit ModelError → Result X ModelFault → Type 0
Becomes = answers.Becomes fault_of
