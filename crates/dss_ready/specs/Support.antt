-- What is unsupported at Solve, and what an element lacks.
use Rattle.std.specs.Prelude.{ℕ, ℤ, Bool, true, false, not, is_none, Option, Some, None, Result, Err}
use Rattle.std.specs.Ordering.{int_eq}
use Rattle.dss_circuit.specs.dss_model.Ranges.{ones}
use Rattle.dss_circuit.specs.dss_model.declared.element.Element.{Element}
use Rattle.dss_circuit.specs.dss_model.declared.element.Element.TheVariants as the
use Rattle.dss_layout.specs.declared.numbers.TerminalFault.{TerminalFault}
use Rattle.dss_layout.specs.declared.numbers.TerminalFault.TheVariants as terminal

-- the frequency of an element, where it was given
abbrev pub frequency_of : Element → Option ℤ
frequency_of (the.Vsource source) = source.basefreq
frequency_of (the.Linecode code) = code.basefreq
frequency_of (the.Line line) = line.basefreq
frequency_of (the.Transformer transformer) = transformer.basefreq
frequency_of (the.Capacitor capacitor) = capacitor.basefreq
frequency_of (the.Load load) = load.basefreq
frequency_of other = None

-- a frequency that is given is that of the options
abbrev pub differs_from : ℕ → Option ℤ → Bool
differs_from hertz None = false
differs_from hertz (Some frequency) = not (int_eq frequency (ones hertz))

-- the two windings of a transformer have one rated power
abbrev pub are_powers_unequal : Element → Bool
are_powers_unequal (the.Transformer transformer) = not (int_eq transformer.first.kva transformer.second.kva)
are_powers_unequal other = false

-- whether a fourth node, or the second of a source of one phase, isn't ground
abbrev pub is_support_fault : Result Unit TerminalFault → Bool
is_support_fault (Err terminal.Unsupported) = true
is_support_fault other = false

-- a line has an impedance of its own, from its line code or by switch
abbrev pub lacks_impedance : Element → Bool
lacks_impedance (the.Line line) = is_none line.constants.form
lacks_impedance other = false
