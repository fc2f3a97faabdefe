-- What a circuit that passed the tests of Solve is.
use Rattle.std.specs.Prelude.{◌≡◌, ℕ, ℤ, pos, ◌+◌, ◌<◌, ◌≤◌, ◌≤ℤ◌, ◌<ℤ◌, false, IsTrue, IsSome, List, length, take, All, Some, Ok, slice_get}
use Rattle.dss_circuit.specs.dss_model.Ranges.{ones}
use Rattle.dss_circuit.specs.dss_model.declared.words.ControlQuantity.{ControlQuantity}
use Rattle.dss_circuit.specs.dss_model.declared.words.ControlQuantity.TheVariants as quantity
use Rattle.dss_circuit.specs.dss_model.declared.vsource.Vsource.{Vsource}
use Rattle.dss_circuit.specs.dss_model.declared.line.Line.{Line}
use Rattle.dss_circuit.specs.dss_model.declared.transformer.Winding.{Winding}
use Rattle.dss_circuit.specs.dss_model.declared.transformer.Transformer.{Transformer}
use Rattle.dss_circuit.specs.dss_model.declared.regcontrol.RegControl.{RegControl}
use Rattle.dss_circuit.specs.dss_model.declared.capcontrol.CapControl.{CapControl}
use Rattle.dss_circuit.specs.dss_model.declared.load.Load.{Load}
use Rattle.dss_circuit.specs.dss_model.declared.loadshape.Loadshape.{Loadshape}
use Rattle.dss_circuit.specs.dss_model.declared.element.Element.{Element}
use Rattle.dss_circuit.specs.dss_model.declared.element.Element.TheVariants as the
use Rattle.dss_circuit.specs.dss_model.declared.names.Class.TheVariants as class
use Rattle.dss_circuit.specs.dss_model.declared.names.ElementName.{ElementName}
use Rattle.dss_circuit.specs.Circuit.{CircuitView, Elements}
use Rattle.dss_layout.specs.Among.{IsAmong}
use Rattle.dss_ready.specs.Feeding.{Fed}
use Rattle.dss_layout.specs.Limits.{most_complex, most_magnitudes}
use Rattle.dss_layout.specs.Layout.{complex_count, layout_of, nodes_of}
use Rattle.dss_layout.specs.Terminals.{mentions, terminal_numbers, tested}
use Rattle.dss_circuit.specs.dss_model.Sound.{are_matrices_wrong, is_source_outside}
use Rattle.dss_circuit.specs.dss_model.LoadKinds.{is_zip}
use Rattle.dss_circuit.specs.Lookups.{element_given}
use Rattle.dss_ready.specs.Lookups.{measured_phases}
use Rattle.dss_ready.specs.Mentions.{is_second_of_bank, is_second_of_winding, is_shape_followed, is_winding_controlled}
use Rattle.dss_ready.specs.Ready.{HasPassed}
use Rattle.dss_ready.specs.Support.{frequency_of}

-- ---- values of one element

-- a source that isn't given in ohms is below its limit
pub record IsVsourceFit (source : Vsource) : Type 0 where
  pub below : is_source_outside source ≡ false

-- the matrices that hold have a row and a column for each phase, and the line has an impedance
pub record IsLineFit (line : Line) : Type 0 where
  pub matrices : are_matrices_wrong line ≡ false
  pub impedance : IsSome line.constants.form

-- a load of model 8 has its shares
pub record IsLoadFit (load : Load) : Type 0 where
  pub shares : IsTrue (is_zip load.model) → IsSome load.zipv

-- a step of the tap is at least 10^-5, and the tap of a winding that a RegControl controls is from mintap to maxtap
pub record IsWindingFit (elements : Elements) (name : List ℕ) (number : ℕ) (winding : Winding) : Type 0 where
  pub step : winding.mintap + winding.numtaps ≤ winding.maxtap
  pub least : IsTrue (is_winding_controlled elements name number) → winding.mintap ≤ winding.tap
  pub most : IsTrue (is_winding_controlled elements name number) → winding.tap ≤ winding.maxtap

-- and both windings have one rated power
pub record IsTransformerFit (elements : Elements) (name : List ℕ) (transformer : Transformer) : Type 0 where
  pub first : IsWindingFit elements name 1 transformer.first
  pub second : IsWindingFit elements name 2 transformer.second
  pub powers : transformer.first.kva ≡ transformer.second.kva

-- a phase of this element, where it is a Transformer or a Line
pub record IsPhaseOf (element : Element) (phase : ℤ) : Type 0 where
  pub least : (phases : ℕ) → measured_phases element ≡ Some phases → pos 1 ≤ℤ phase
  pub most : (phases : ℕ) → measured_phases element ≡ Some phases → phase ≤ℤ pos phases

-- the Transformer is there, the control measures one of its phases, and no control before it is one of the same winding
pub record IsRegControlFit (elements before : Elements) (control : RegControl) : Type 0 where
  pub transformer : Element
  pub there : element_given elements class.Transformer control.transformer ≡ Some transformer
  pub phase : IsPhaseOf transformer control.ptphase
  pub first : is_second_of_winding before control.transformer control.winding ≡ false

-- by voltage a bank closes below the value at which it opens, and by current or kvar above it
abbrev pub AreSettingsApart : ControlQuantity → ℤ → ℤ → Type 0
AreSettingsApart quantity.Voltage on off = on <ℤ off
AreSettingsApart quantity.Current on off = off <ℤ on
AreSettingsApart quantity.Kvar on off = off <ℤ on

-- the Line and the Capacitor are there, the control measures phases of the line, its settings are apart, and no control before it is one of
-- the same bank
pub record IsCapControlFit (elements before : Elements) (control : CapControl) : Type 0 where
  pub line : Element
  pub line_there : element_given elements class.Line control.element ≡ Some line
  pub bank : Element
  pub bank_there : element_given elements class.Capacitor control.capacitor ≡ Some bank
  pub voltage_phase : IsPhaseOf line control.ptphase
  pub current_phase : IsPhaseOf line control.ctphase
  pub settings : AreSettingsApart control.kind control.onsetting control.offsetting
  pub first : is_second_of_bank before control.capacitor ≡ false

-- a shape that a Load names has some hours, and a value for each
pub record IsShapeFit (elements : Elements) (name : List ℕ) (shape : Loadshape) : Type 0 where
  pub hours : IsTrue (is_shape_followed elements name) → 0 < shape.npts
  pub values : IsTrue (is_shape_followed elements name) → shape.npts ≤ length shape.mult

-- the values of an element of a class, of which these stand before it
abbrev pub AreValuesFit : Elements → Elements → ElementName → Element → Type 0
AreValuesFit elements before name (the.Vsource source) = IsVsourceFit source
AreValuesFit elements before name (the.Line line) = IsLineFit line
AreValuesFit elements before name (the.Transformer transformer) = IsTransformerFit elements name.name transformer
AreValuesFit elements before name (the.RegControl control) = IsRegControlFit elements before control
AreValuesFit elements before name (the.CapControl control) = IsCapControlFit elements before control
AreValuesFit elements before name (the.Loadshape shape) = IsShapeFit elements name.name shape
AreValuesFit elements before name (the.Linecode code) = Unit {0}
AreValuesFit elements before name (the.Capacitor bank) = Unit {0}
AreValuesFit elements before name (the.Load load) = IsLoadFit load

-- ---- an element

-- an element of a circuit, of which these stand before it
pub record IsFit (circuit : CircuitView) (before : Elements) (entry : ElementName × Element) : Type 0 where
  -- its buses are given and have as many nodes as it needs
  pub terminals : tested (terminal_numbers entry.1) ≡ Ok tt
  -- a frequency that is given is that of the options
  pub frequency : (hertz : ℤ) → frequency_of entry.1 ≡ Some hertz → hertz ≡ ones circuit.options.defaultbasefrequency
  pub values : AreValuesFit circuit.elements before entry.0 entry.1
  -- its nodes are among the unknowns
  pub nodes : All (IsAmong (nodes_of circuit.elements)) (mentions entry.1)
  -- and are fed
  pub fed : All (Fed circuit.elements) (mentions entry.1)

-- ---- a circuit

pub record Passed (circuit : CircuitView) : Type 0 where
  -- nodes and branch phases, and magnitudes, are as many as may be
  pub complex : complex_count (layout_of circuit.elements) ≤ most_complex
  pub magnitudes : length (layout_of circuit.elements).magnitudes ≤ most_magnitudes
  -- the element at each place
  pub each : (place : ℕ) (entry : ElementName × Element) → slice_get circuit.elements place ≡ Some entry
      → IsFit circuit (take place circuit.elements) entry

-- what it means to have passed the tests of Solve
abbrev pub PassedLaw : Type 0
PassedLaw = (circuit : CircuitView) → HasPassed circuit → Passed circuit
