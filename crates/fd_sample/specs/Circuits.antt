-- The probes of a circuit's controls: where the elements that a control names stand, and their numbers among their
-- kind.
use Rattle.std.specs.Prelude.{◌≡◌, ◌≢◌, ℕ, ◌+◌, ◌≤◌, ◌<◌, ◌^◌, List, length, map, take, slice_get, All, Option, Some, None}
use Rattle.std.specs.List.{filter_map, position}
use Rattle.std.specs.Option.{option_and_then, option_map}
use Rattle.fd_network.specs.fd_exact.Sums.{list_n}
use Rattle.fd_network.specs.dss_model.InRange.{CapControlInRange, LineInRange, RegControlInRange, TransformerInRange}
use Rattle.fd_network.specs.dss_model.SameElement.{same_element}
use Rattle.fd_network.specs.dss_model.declared.capcontrol.CapControl.{CapControl}
use Rattle.fd_network.specs.dss_model.declared.line.Line.{Line}
use Rattle.fd_sample.specs.declared.probe.CapProbe.{CapProbe}
use Rattle.fd_network.specs.dss_model.declared.element.Element.{Element}
use Rattle.fd_network.specs.dss_model.declared.element.Element.TheVariants as the
use Rattle.fd_network.specs.dss_model.declared.names.Class.{Class}
use Rattle.fd_network.specs.dss_model.declared.names.Class.TheVariants as class
use Rattle.fd_network.specs.dss_model.declared.regcontrol.RegControl.{RegControl}
use Rattle.fd_network.specs.dss_model.declared.transformer.Transformer.{Transformer}
use Rattle.fd_network.specs.dss_circuit.Circuit.{CircuitView}
use Rattle.fd_network.specs.dss_circuit.InRange.{AllInRange}
use Rattle.fd_network.specs.dss_circuit.WellFormed.{IsEntry}
use Rattle.fd_network.specs.dss_layout.Layout.{Elements, LayoutView, complex_count, ends_of, layout_of, size_of, sums_before}
use Rattle.fd_network.specs.dss_circuit.Lookups.{element_given}
use Rattle.fd_network.specs.dss_ready.Passed.{IsPhaseOf}
use Rattle.fd_network.specs.dss_ready.Ready.{HasPassed}
use Rattle.fd_network.specs.fd_xfmr.Transformer.{IsBetween}
use Rattle.fd_network.specs.fd_devices.Settings.{bank_count, tap_count}
use Rattle.fd_regctl.specs.fd_queue.Controls.{Positions}
use Rattle.fd_regctl.specs.fd_queue.Queue.{InPairs}
use Rattle.fd_sample.specs.declared.numbers.Numbers.{Numbers}
use Rattle.fd_sample.specs.declared.probe.Probe.{Probe}
use Rattle.fd_sample.specs.declared.probe.Probe.TheVariants as probe
use Rattle.fd_sample.specs.declared.probe.RegProbe.{RegProbe}
use Rattle.fd_sample.specs.Probes.{HasDevice, IsProbe}
use Rattle.fd_sample.specs.Scripted.{IsLineAt, IsPhase, IsXfmrAt, cap_probe, reg_probe}

-- the place in order of the element of a class that a property names
abbrev pub place_given : Elements → Class → Option (List ℕ) → Option ℕ
place_given elements class None = None
place_given elements class (Some name) = position (same_element (record { class = class; name = name })) (map (λ e. e.0) elements)

-- the element at a place
abbrev pub element_at : Elements → ℕ → Option Element
element_at elements place = option_map (λ e. e.1) (slice_get elements place)

-- the transformers that stand before a place
abbrev pub transformers_before : Elements → ℕ → ℕ
transformers_before elements place = list_n (λ e. tap_count e.1) (take place elements)

-- a regulator's control in range, whose transformer is there and has the phase that it measures
pub record IsRegControlIn (elements : Elements) (control : RegControl) : Type 0 where
  pub in_range : RegControlInRange control
  pub transformer : Element
  pub there : element_given elements class.Transformer control.transformer ≡ Some transformer
  pub phase : IsPhaseOf transformer control.ptphase

-- its probe
pub record IsRegProbeIn (elements : Elements) (control : RegControl) (p : RegProbe) : Type 0 where
  pub place : ℕ
  pub transformer : Transformer
  pub found : place_given elements class.Transformer control.transformer ≡ Some place
  pub there : element_at elements place ≡ Some (the.Transformer transformer)
  pub probe : p ≡ reg_probe control transformer (ends_of (layout_of elements) place (the.Transformer transformer)) (transformers_before elements place)

abbrev pub transformer_in : Element → Option Transformer
transformer_in (the.Transformer t) = Some t
transformer_in other = None

-- what a transformer at a place must be for its control's probe to be made
pub record IsXfmrOf (layout : LayoutView) (place : ℕ) (control : RegControl) (t : Transformer) : Type 0 where
  pub in_range : TransformerInRange t
  pub first_step : t.first.mintap + t.first.numtaps ≤ t.first.maxtap
  pub second_step : t.second.mintap + t.second.numtaps ≤ t.second.maxtap
  pub phase : IsPhase t.phases control.ptphase
  pub between : IsBetween t.phases (ends_of layout place (the.Transformer t))
  pub stands : IsXfmrAt (complex_count layout) (size_of layout) t.phases (ends_of layout place (the.Transformer t))

-- an element that is one
pub record IsXfmrFor (layout : LayoutView) (place : ℕ) (control : RegControl) (e : Element) : Type 0 where
  pub transformer : Transformer
  pub is : e ≡ the.Transformer transformer
  pub fit : IsXfmrOf layout place control transformer

-- the probe of a control whose transformer is this element and has this number
abbrev pub IsRegProbeAt : LayoutView → ℕ → RegControl → Element → ℕ → RegProbe → Type 0
IsRegProbeAt layout place control e number p =
    (t : Transformer) → e ≡ the.Transformer t
    → p ≡ reg_probe control t (ends_of layout place (the.Transformer t)) number

-- ---- a bank's control

-- the banks that stand before a place
abbrev pub banks_before : Elements → ℕ → ℕ
banks_before elements place = list_n (λ e. bank_count e.1) (take place elements)

abbrev pub line_in : Element → Option Line
line_in (the.Line l) = Some l
line_in other = None

-- a bank's control in range, whose line is there and has the phases that it measures, and whose bank is there
pub record IsCapControlIn (elements : Elements) (control : CapControl) : Type 0 where
  pub in_range : CapControlInRange control
  pub line : Element
  pub line_there : element_given elements class.Line control.element ≡ Some line
  pub bank : Element
  pub bank_there : element_given elements class.Capacitor control.capacitor ≡ Some bank
  pub voltage_phase : IsPhaseOf line control.ptphase
  pub current_phase : IsPhaseOf line control.ctphase

-- its probe
pub record IsCapProbeIn (elements : Elements) (control : CapControl) (p : CapProbe) : Type 0 where
  pub place : ℕ
  pub line : Line
  pub found : place_given elements class.Line control.element ≡ Some place
  pub there : element_at elements place ≡ Some (the.Line line)
  pub bank : ℕ
  pub bank_found : place_given elements class.Capacitor control.capacitor ≡ Some bank
  pub probe : p ≡ cap_probe control line (ends_of (layout_of elements) place (the.Line line)) (banks_before elements bank)

-- what a line at a place must be for a control's probe to be made
pub record IsLineOf (layout : LayoutView) (place : ℕ) (control : CapControl) (l : Line) : Type 0 where
  pub in_range : LineInRange l
  pub voltage_phase : IsPhase l.phases control.ptphase
  pub current_phase : IsPhase l.phases control.ctphase
  pub branch : (ends_of layout place (the.Line l)).branch < 2 ^ 30
  pub stands : IsLineAt (complex_count layout) (size_of layout) l.phases (ends_of layout place (the.Line l))

-- an element that is one
pub record IsLineFor (layout : LayoutView) (place : ℕ) (control : CapControl) (e : Element) : Type 0 where
  pub line : Line
  pub is : e ≡ the.Line line
  pub fit : IsLineOf layout place control line

-- the probe of a control whose line is this element and whose bank has this number
abbrev pub IsCapProbeAt : LayoutView → ℕ → CapControl → Element → ℕ → CapProbe → Type 0
IsCapProbeAt layout place control e number p = (l : Line) → e ≡ the.Line l → p ≡ cap_probe control l (ends_of layout place (the.Line l)) number

-- ---- any element

-- for each element, how many transformers and how many banks stand before it
pub record AreNumbers (elements : Elements) (numbers : Numbers) : Type 0 where
  pub transformers : numbers.transformers.items ≡ sums_before tap_count 0 elements
  pub banks : numbers.banks.items ≡ sums_before bank_count 0 elements

-- the probe of an element: there is one exactly where it is a control
abbrev pub IsProbeOf : Elements → Option Element → Option Probe → Type 0
IsProbeOf es (Some (the.RegControl control)) (Some (probe.Regulator p)) = IsRegProbeIn es control p
IsProbeOf es (Some (the.RegControl control)) (Some (probe.Bank p)) = ⊥
IsProbeOf es (Some (the.RegControl control)) None = ⊥
IsProbeOf es (Some (the.CapControl control)) (Some (probe.Bank p)) = IsCapProbeIn es control p
IsProbeOf es (Some (the.CapControl control)) (Some (probe.Regulator p)) = ⊥
IsProbeOf es (Some (the.CapControl control)) None = ⊥
IsProbeOf es (Some other) None = Unit {0}
IsProbeOf es (Some other) (Some p) = ⊥
IsProbeOf es None o = ⊥

-- ---- the controls of a circuit

-- the probe of a regulator's control, by the transformer that it names
abbrev pub reg_probe_at : Elements → RegControl → ℕ → Option Transformer → Option RegProbe
reg_probe_at es control place None = None
reg_probe_at es control place (Some t) = Some (reg_probe control t (ends_of (layout_of es) place (the.Transformer t)) (transformers_before es place))

abbrev pub reg_probe_in : Elements → RegControl → Option RegProbe
reg_probe_in es control =
    option_and_then (λ place. reg_probe_at es control place (option_and_then transformer_in (element_at es place)))
    (place_given es class.Transformer control.transformer)

-- the probe of a bank's control, by the line and the bank that it names
abbrev pub cap_probe_at : Elements → CapControl → ℕ → Option Line → Option ℕ → Option CapProbe
cap_probe_at es control place None bank = None
cap_probe_at es control place (Some l) None = None
cap_probe_at es control place (Some l) (Some bank) = Some (cap_probe control l (ends_of (layout_of es) place (the.Line l)) (banks_before es bank))

abbrev pub cap_probe_in : Elements → CapControl → Option CapProbe
cap_probe_in es control =
    option_and_then (λ place.
    cap_probe_at es control place (option_and_then line_in (element_at es place))
    (place_given es class.Capacitor control.capacitor))
    (place_given es class.Line control.element)

-- the probe of an element, one for a control of a circuit that passed the tests of Solve and none for any other element
abbrev pub probe_in : Elements → Element → Option Probe
probe_in es (the.RegControl control) = option_map probe.Regulator (reg_probe_in es control)
probe_in es (the.CapControl control) = option_map probe.Bank (cap_probe_in es control)
probe_in es other = None

-- of all controls, in the script's order
unfoldable pub probes_of : Elements → List Probe
probes_of es = filter_map (λ e. probe_in es e.1) es

-- ---- what they keep to

-- delays from which times can be made, in milliseconds
abbrev pub HasTimes : Probe → Type 0
HasTimes (probe.Regulator p) = (p.delay < 2 ^ 60) × (p.tapdelay < 2 ^ 60)
HasTimes (probe.Bank p) = (p.delay < 2 ^ 60) × ((p.delayoff < 2 ^ 60) × (p.deadtime < 2 ^ 60))

-- a tap that a control moves stays within the range of taps
abbrev pub HasRange : Probe → Type 0
HasRange (probe.Regulator p) = (50000 ≤ p.min_tap) × (p.max_tap ≤ 200000)
HasRange (probe.Bank p) = Unit {0}

-- two controls don't move one winding, nor switch one bank
abbrev pub AreApart : Probe → Probe → Type 0
AreApart (probe.Bank p) (probe.Bank q) = p.bank ≢ q.bank
AreApart (probe.Bank p) (probe.Regulator q) = Unit {0}
AreApart (probe.Regulator p) (probe.Bank q) = Unit {0}
AreApart (probe.Regulator p) (probe.Regulator q) = p.transformer ≡ q.transformer → p.is_second ≢ q.is_second

-- the probes of a circuit that passed the tests of Solve
pub record AreProbes (elements : Elements) (ps : List Probe) : Type 0 where
  pub places : All (IsProbe (size_of (layout_of elements))) ps
  pub devices : (at : Positions) → length at.taps ≡ list_n (λ e. tap_count e.1) elements
      → length at.closed ≡ list_n (λ e. bank_count e.1) elements → All (HasDevice at) ps
  pub times : All HasTimes ps
  pub ranges : All HasRange ps
  pub apart : InPairs AreApart ps
  pub few : length ps ≤ length elements

-- a circuit's controls keep to it once the circuit passed the tests of Solve
abbrev pub ProbesLaw : Type 0
ProbesLaw =
    (circuit : CircuitView) → HasPassed circuit → AllInRange circuit.elements → All IsEntry circuit.elements
    → AreProbes circuit.elements (probes_of circuit.elements)
