-- The devices of a scripted circuit, and its network.
use Rattle.std.specs.Prelude.{ℕ, ◌+◌, pos, Bool, false, List, [], ◌∷◌, map, length, get_or, Option, Some, None, if◌then◌else◌}
use Rattle.dss_layout.specs.fd_exact.States.{State}
use Rattle.dss_layout.specs.fd_arith.declared.terms.NodeAt.{NodeAt}
use Rattle.dss_layout.specs.fd_arith.declared.terms.TapPair.{TapPair}
use Rattle.dss_layout.specs.fd_arith.declared.terms.LoadModel.{LoadModel}
use Rattle.dss_layout.specs.fd_arith.LoadModels.{has_magnitude}
use Rattle.fd_xfmr.specs.fd_system.declared.loads.LoadPhase.{LoadPhase}
use Rattle.fd_xfmr.specs.fd_system.declared.loads.LoadAt.{LoadAt}
use Rattle.fd_xfmr.specs.fd_system.Equations.{Part}
use Rattle.fd_xfmr.specs.fd_system.declared.terminals.NodePair.{NodePair}
use Rattle.fd_xfmr.specs.fd_system.Terminals.{pair_of, pairs_of}
use Rattle.dss_layout.specs.dss_model.declared.element.Element.{Element}
use Rattle.dss_layout.specs.dss_model.declared.element.Element.TheVariants as the
use Rattle.dss_layout.specs.dss_model.declared.load.Load.{Load}
use Rattle.dss_layout.specs.Layout.{Elements, LayoutView, ends_of, first_magnitude, layout_of}
use Rattle.dss_circuit.specs.Circuit.{CircuitView}
use Rattle.fd_elements.specs.declared.powers.LoadPower.{LoadPower}
use Rattle.fd_elements.specs.Connections.{conn_of}
use Rattle.fd_elements.specs.Lines.{line_data_of}
use Rattle.fd_elements.specs.Loads.{phase_parts}
use Rattle.fd_pattern.specs.declared.layout.Layout.{Layout}
use Rattle.fd_xfmr.specs.fd_system.Contributions.{concat_below}
use Rattle.fd_pattern.specs.Views.{NetworkView, network_of}
use Rattle.fd_devices.specs.Data.{cap_data_of, xfmr_data_of}
use Rattle.fd_devices.specs.Devices.{Device, source, line, transformer, capacitor, loads, other, parts_of_all, stamp_of_all}
use Rattle.fd_devices.specs.Settings.{Settings, own, after}
use Rattle.fd_elements.specs.Sources.{source_data_of}

-- ---- loads

-- the two nodes that phase k of a load joins: it draws its current at the first and gives it back at the second
abbrev pub load_pair : Load → List NodeAt → ℕ → NodePair
load_pair load ns k = pair_of (pairs_of load.phases (conn_of load.conn)) ns k

-- the place of the magnitude of phase k, which its part load of constant current has; the first one's place is given
abbrev pub magnitude_place : LoadModel → ℕ → ℕ → Option ℕ
magnitude_place model first k = if has_magnitude model then Some (first + k) else None

abbrev pub power_at : List LoadPower → ℕ → LoadPower
power_at powers k = get_or powers k (record { p = pos 0; q = pos 0 })

-- a part load of phase k at these nodes
abbrev pub part_at : Load → List NodeAt → ℕ → ℕ → LoadPhase → LoadAt
part_at load ns magnitude k part = record {
  load = part;
  first = (load_pair load ns k).first;
  second = (load_pair load ns k).second;
  magnitude = magnitude_place part.model magnitude k;
}

-- the part loads of phase k, with the powers of the phases: one, and in model 8 three
abbrev pub phase_loads : Load → List NodeAt → ℕ → List LoadPower → ℕ → List LoadAt
phase_loads load ns magnitude powers k = map (part_at load ns magnitude k) (phase_parts load (power_at powers k))

-- those of all phases in order
abbrev pub phases_of : Load → List NodeAt → ℕ → List LoadPower → List LoadAt
phases_of load ns magnitude powers = concat_below (phase_loads load ns magnitude powers) load.phases

-- ---- devices

-- the taps of a transformer and the state of a bank among the settings of its element
abbrev pub first_taps : List TapPair → TapPair
first_taps taps = get_or taps 0 (record { first = 0; second = 0 })

abbrev pub first_state : List Bool → Bool
first_state closed = get_or closed 0 false

-- the device of an element that stands at a place in order, at the circuit's frequency in hertz and with its own settings
abbrev pub device_of : LayoutView → ℕ → ℕ → Element → Settings → Device
device_of layout hertz place (the.Vsource v) s = source (source_data_of v) (ends_of layout place (the.Vsource v))
device_of layout hertz place (the.Line l) s = line (line_data_of l hertz) (ends_of layout place (the.Line l))
device_of layout hertz place (the.Transformer t) s = transformer (xfmr_data_of t) (first_taps s.taps) (ends_of layout place (the.Transformer t))
device_of layout hertz place (the.Capacitor c) s = capacitor (cap_data_of c) (first_state s.closed) (ends_of layout place (the.Capacitor c))
device_of layout hertz place (the.Load l) s = loads (phases_of l (ends_of layout place (the.Load l)).first (first_magnitude layout place) s.powers)
device_of layout hertz place e s = other

-- the devices of elements of which the first stands at a place in order, with the settings of these elements
abbrev pub devices_from : LayoutView → ℕ → ℕ → Elements → Settings → List Device
devices_from layout hertz place [] s = []
devices_from layout hertz place (e ∷ rest) s = device_of layout hertz place e.1 (own e.1 s) ∷ devices_from layout hertz (place + 1) rest (after e.1 s)

-- ---- the circuit

abbrev pub devices_of : CircuitView → Settings → List Device
devices_of c s = devices_from (layout_of c.elements) c.options.defaultbasefrequency 0 c.elements s

-- its complex equations
abbrev pub circuit_parts : CircuitView → Settings → State → List Part
circuit_parts c s x = parts_of_all (devices_of c s) x

-- where the unknowns of a layout stand
abbrev pub layout_counts : LayoutView → Layout
layout_counts l = record { nodes = length l.nodes; branches = length l.branches; magnitudes = length l.magnitudes }

-- the network of devices in a layout: their stamps in order
abbrev pub devices_network : LayoutView → List Device → NetworkView
devices_network layout ds = network_of (layout_counts layout) (stamp_of_all ds)

-- its network
abbrev pub circuit_network : CircuitView → Settings → NetworkView
circuit_network c s = devices_network (layout_of c.elements) (devices_of c s)
