-- The counts that are tested at Solve.
use Rattle.std.specs.Prelude.{◌==◌, nat_lt, length, Bool, true, false, ◌&&◌, ◌||◌, is_none, Result, Err}
use Rattle.dss_circuit.specs.dss_model.declared.loadshape.Loadshape.{Loadshape}
use Rattle.dss_circuit.specs.dss_model.declared.regcontrol.RegControl.{RegControl}
use Rattle.dss_circuit.specs.dss_model.declared.capcontrol.CapControl.{CapControl}
use Rattle.dss_circuit.specs.dss_model.declared.element.Element.{Element}
use Rattle.dss_circuit.specs.dss_model.declared.element.Element.TheVariants as the
use Rattle.dss_circuit.specs.dss_model.declared.names.Class.TheVariants as class
use Rattle.dss_circuit.specs.dss_model.declared.names.ElementName.{ElementName}
use Rattle.dss_layout.specs.declared.numbers.TerminalFault.{TerminalFault}
use Rattle.dss_layout.specs.declared.numbers.TerminalFault.TheVariants as terminal
use Rattle.dss_circuit.specs.Circuit.{Elements}
use Rattle.dss_ready.specs.Mentions.{is_shape_followed}
use Rattle.dss_circuit.specs.Lookups.{element_given}
use Rattle.dss_circuit.specs.dss_model.Sound.{are_matrices_wrong}
use Rattle.dss_circuit.specs.dss_model.LoadKinds.{lacks_shares}

-- a shape of no hours, or with fewer values than hours
abbrev pub is_shape_short : Loadshape → Bool
is_shape_short shape = (shape.npts == 0) || nat_lt (length shape.mult) shape.npts

-- whether a bus isn't given, or has too few or too many nodes
abbrev pub is_count_fault : Result Unit TerminalFault → Bool
is_count_fault (Err terminal.WrongCount) = true
is_count_fault other = false

module _ (elements : Elements) where
  -- a RegControl needs its Transformer
  abbrev pub lacks_transformer : RegControl → Bool
  lacks_transformer control = is_none (element_given elements class.Transformer control.transformer)

  -- a CapControl needs its Line and its Capacitor
  abbrev pub lacks_line_or_bank : CapControl → Bool
  lacks_line_or_bank control =
      is_none (element_given elements class.Line control.element) || is_none (element_given elements class.Capacitor control.capacitor)

  -- besides its buses, whether the element has something in the wrong number, a Load of model 8 its shares; a Loadshape only where a Load
  -- names it
  abbrev pub is_part_wrong : ElementName → Element → Bool
  is_part_wrong name (the.Line line) = are_matrices_wrong line
  is_part_wrong name (the.Load load) = lacks_shares load
  is_part_wrong name (the.RegControl control) = lacks_transformer control
  is_part_wrong name (the.CapControl control) = lacks_line_or_bank control
  is_part_wrong name (the.Loadshape shape) = is_shape_short shape && is_shape_followed elements name.name
  is_part_wrong name other = false
