-- The values that are tested against one another at Solve.
use Rattle.std.specs.Prelude.{ℕ, ℤ, pos, ◌+◌, nat_lt, int_lt, int_le, Bool, false, not, ◌&&◌, ◌||◌, List, Option, Some, None}
use Rattle.dss_circuit.specs.dss_model.declared.words.ControlQuantity.{ControlQuantity}
use Rattle.dss_circuit.specs.dss_model.declared.words.ControlQuantity.TheVariants as quantity
use Rattle.dss_circuit.specs.dss_model.declared.transformer.Winding.{Winding}
use Rattle.dss_circuit.specs.dss_model.declared.transformer.Transformer.{Transformer}
use Rattle.dss_circuit.specs.dss_model.declared.regcontrol.RegControl.{RegControl}
use Rattle.dss_circuit.specs.dss_model.declared.capcontrol.CapControl.{CapControl}
use Rattle.dss_circuit.specs.dss_model.declared.element.Element.{Element}
use Rattle.dss_circuit.specs.dss_model.declared.element.Element.TheVariants as the
use Rattle.dss_circuit.specs.dss_model.declared.names.Class.TheVariants as class
use Rattle.dss_circuit.specs.dss_model.declared.names.ElementName.{ElementName}
use Rattle.dss_circuit.specs.Circuit.{Elements}
use Rattle.dss_ready.specs.Mentions.{is_winding_controlled}
use Rattle.dss_circuit.specs.Lookups.{element_given}
use Rattle.dss_ready.specs.Lookups.{phases_given}
use Rattle.dss_circuit.specs.dss_model.Sound.{is_source_outside}

-- a step of the tap, (maxtap - mintap) over numtaps, is at least 10^-5
abbrev pub is_step_outside : Winding → Bool
is_step_outside winding = nat_lt winding.maxtap (winding.mintap + winding.numtaps)

-- a tap is from mintap to maxtap
abbrev pub is_tap_outside : Winding → Bool
is_tap_outside winding = nat_lt winding.tap winding.mintap || nat_lt winding.maxtap winding.tap

-- a control measures one of the phases, where it is known how many there are
abbrev pub is_phase_outside : ℤ → Option ℕ → Bool
is_phase_outside phase None = false
is_phase_outside phase (Some phases) = not (int_le (pos 1) phase && int_le phase (pos phases))

-- by voltage a bank closes below the value at which it opens, and by current or kvar above it
abbrev pub are_settings_outside : ControlQuantity → ℤ → ℤ → Bool
are_settings_outside quantity.Voltage on off = not (int_lt on off)
are_settings_outside quantity.Current on off = not (int_lt off on)
are_settings_outside quantity.Kvar on off = not (int_lt off on)

module _ (elements : Elements) where
  -- only the tap of a winding that a RegControl controls has a range
  abbrev pub is_winding_outside : List ℕ → ℕ → Winding → Bool
  is_winding_outside name number winding = is_step_outside winding || (is_tap_outside winding && is_winding_controlled elements name number)

  abbrev pub is_transformer_outside : List ℕ → Transformer → Bool
  is_transformer_outside name transformer = is_winding_outside name 1 transformer.first || is_winding_outside name 2 transformer.second

  abbrev pub is_regcontrol_outside : RegControl → Bool
  is_regcontrol_outside control = is_phase_outside control.ptphase (phases_given (element_given elements class.Transformer control.transformer))

  abbrev pub is_capcontrol_outside : CapControl → Bool
  is_capcontrol_outside control =
      are_settings_outside control.kind control.onsetting control.offsetting
      || (is_phase_outside control.ptphase (phases_given (element_given elements class.Line control.element))
      || is_phase_outside control.ctphase (phases_given (element_given elements class.Line control.element)))

  -- whether a value of the element is out of range
  abbrev pub is_outside_by : ElementName → Element → Bool
  is_outside_by name (the.Vsource source) = is_source_outside source
  is_outside_by name (the.Transformer transformer) = is_transformer_outside name.name transformer
  is_outside_by name (the.RegControl control) = is_regcontrol_outside control
  is_outside_by name (the.CapControl control) = is_capcontrol_outside control
  is_outside_by name other = false
