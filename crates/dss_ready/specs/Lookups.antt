-- What a control can measure of the element that it names.
use Rattle.std.specs.Prelude.{ℕ, Option, Some, None}
use Rattle.std.specs.Option.{option_and_then}
use Rattle.dss_circuit.specs.dss_model.declared.element.Element.{Element}
use Rattle.dss_circuit.specs.dss_model.declared.element.Element.TheVariants as the

-- the phases of a Transformer or a Line
abbrev pub measured_phases : Element → Option ℕ
measured_phases (the.Transformer transformer) = Some transformer.phases
measured_phases (the.Line line) = Some line.phases
measured_phases other = None

-- the phases that a control can measure, where the element that it names is there
abbrev pub phases_given : Option Element → Option ℕ
phases_given found = option_and_then measured_phases found
