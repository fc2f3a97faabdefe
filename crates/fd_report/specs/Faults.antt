-- The faults in which a command line can end: the fields of each record, and its exit status. An unknown or a row goes
-- by its name.
use Rattle.std.specs.Prelude.{ℕ, ℤ, List, [], ◌∷◌, unsigned_abs, codes, Option, Some, None}
use Rattle.std.specs.Fmt.{decimal}
use Rattle.dss_script.specs.dss_model.Names.{bytes}
use Rattle.dss_script.specs.dss_model.declared.fault.ModelFault.{ModelFault}
use Rattle.dss_script.specs.dss_model.declared.fault.ModelFault.TheVariants as model
use Rattle.dss_script.specs.declared.fault.ScriptCause.{ScriptCause}
use Rattle.dss_script.specs.declared.fault.ScriptCause.TheVariants as script
use Rattle.fd_cert.specs.declared.rule.Rule.{Rule}
use Rattle.fd_cert.specs.declared.rule.Rule.TheVariants as rule
use Rattle.fd_inverse.specs.declared.fault.Stop.{Stop}
use Rattle.fd_inverse.specs.declared.fault.Stop.TheVariants.{Pivot, Range}
use Rattle.fd_report.specs.declared.faults.Cause.{Cause}
use Rattle.fd_report.specs.declared.faults.Cause.TheVariants as cause
use Rattle.fd_report.specs.declared.faults.Fault.{Fault}
use Rattle.fd_report.specs.declared.faults.Fault.TheVariants as fault
use Rattle.fd_report.specs.declared.faults.Scale.{Scale}
use Rattle.fd_report.specs.declared.faults.Scale.TheVariants.{Micro, Nano}
use Rattle.fd_report.specs.Names.{element_field, node_field}
use Rattle.dss_script.specs.fd_decimal.Decimals.{size_text, micro_text, nano_text}

-- ---- words

abbrev pub stop_word : Stop → List ℕ
stop_word Pivot = codes "pivot"
stop_word Range = codes "range"

abbrev pub rule_word : Rule → List ℕ
rule_word rule.Absent = codes "absent"
rule_word rule.Grammar = codes "grammar"
rule_word rule.Size = codes "size"
rule_word rule.Range = codes "range"
rule_word rule.Mismatch = codes "mismatch"
rule_word rule.Bound = codes "bound"
rule_word rule.Radius = codes "radius"
rule_word rule.Undecided = codes "undecided"
rule_word rule.Acts = codes "acts"
rule_word rule.ControlLimit = codes "control limit"
rule_word rule.Count = codes "count"

-- what the reader of a script finds
abbrev pub script_text : ScriptCause → List ℕ
script_text script.BadValue = codes "bad value"
script_text script.UnclosedGroup = codes "unclosed group"
script_text script.LineTooLong = codes "line too long"
script_text script.NotText = codes "not text"
script_text script.UnknownCommand = codes "unknown command"
script_text script.AbsentFile = codes "absent file"
script_text script.TooDeep = codes "too deep"
script_text script.TooLong = codes "too long"
script_text script.ContinuesNothing = codes "continues nothing"

-- what the circuit refuses, or a test of Solve finds
abbrev pub model_text : ModelFault → List ℕ
model_text model.UnknownClass = codes "unknown class"
model_text model.UnknownProperty = codes "unknown property"
model_text model.UnknownName = codes "unknown name"
model_text model.Duplicate = codes "duplicate"
model_text model.BadValue = codes "bad value"
model_text model.OutOfRange = codes "value out of range"
model_text model.WrongCount = codes "wrong count"
model_text model.Unsupported = codes "unsupported"
model_text model.NoCircuit = codes "no circuit"
model_text model.IsolatedNode = codes "isolated node"
model_text model.NoImpedance = codes "no impedance"
model_text model.TooMany = codes "too many"
model_text model.Range = codes "range"
model_text model.BadNumber = codes "bad number"
model_text model.NumberTooLarge = codes "number too large"
model_text model.BadPostfix = codes "bad postfix"
model_text model.DivideByZero = codes "divide by zero"

abbrev pub cause_text : Cause → List ℕ
cause_text (cause.Script c) = script_text c
cause_text (cause.Model c) = model_text c

-- a bound in whole 2^-40, or past every number
abbrev pub bound_text : Option ℕ → List ℕ
bound_text None = codes "all"
bound_text (Some bound) = decimal bound

-- a number of units of this scale
abbrev pub scaled_text : Scale → ℤ → List ℕ
scaled_text Micro value = micro_text value
scaled_text Nano value = nano_text value

-- ---- the fields of its record

abbrev pub fields : Fault → List (List ℕ)
fields fault.Usage = codes "fault" ∷ codes "usage" ∷ []
fields (fault.Script place c) = codes "fault" ∷ codes "script" ∷ bytes place.file ∷ decimal place.line ∷ cause_text c ∷ []
fields (fault.Read name) = codes "fault" ∷ codes "read" ∷ bytes name ∷ []
fields (fault.NoInverse unknown c) = codes "fault" ∷ codes "no inverse" ∷ bytes unknown ∷ stop_word c ∷ []
fields (fault.OutOfRange unknown step) = codes "fault" ∷ codes "out of range" ∷ bytes unknown ∷ decimal step ∷ []
fields (fault.NotConverged unknown steps update) =
    codes "fault" ∷ codes "not converged" ∷ bytes unknown ∷ decimal steps ∷ size_text (unsigned_abs update) ∷ []
fields (fault.Loose row mismatch) = codes "fault" ∷ codes "loose" ∷ bytes row ∷ size_text mismatch ∷ []
fields (fault.NotCertified unknown bound) = codes "fault" ∷ codes "not certified" ∷ bytes unknown ∷ bound_text bound ∷ []
fields (fault.Undecided control low high edge scale) =
    codes "fault" ∷ codes "undecided" ∷ element_field control ∷ scaled_text scale low ∷ scaled_text scale high ∷ scaled_text scale edge ∷ []
fields (fault.ControlLimit acts) = codes "fault" ∷ codes "control limit" ∷ decimal acts ∷ []
fields (fault.Certificate line broken) = codes "fault" ∷ codes "certificate" ∷ decimal line ∷ rule_word broken ∷ []
fields (fault.NoSuchNode node) = codes "fault" ∷ codes "no such node" ∷ node_field node ∷ []
fields (fault.NotRadial element) = codes "fault" ∷ codes "not radial" ∷ element_field element ∷ []

-- ---- its status

abbrev pub status : Fault → ℕ
status fault.Usage = 2
status (fault.Script place c) = 3
status (fault.Read name) = 4
status (fault.NoInverse unknown c) = 6
status (fault.OutOfRange unknown step) = 7
status (fault.NotConverged unknown steps update) = 8
status (fault.Loose row mismatch) = 9
status (fault.NotCertified unknown bound) = 10
status (fault.Undecided control low high edge scale) = 11
status (fault.ControlLimit acts) = 12
status (fault.Certificate line broken) = 13
status (fault.NoSuchNode node) = 14
status (fault.NotRadial element) = 15
