-- Devices: elements of a circuit with the data of their equations, at their nodes and branches. Their complex equations, their
-- stamps, and that the two have the same rows.
use Rattle.std.specs.Prelude.{ℕ, ◌<◌, Bool, List, [], map, All}
use Rattle.std.specs.List.{flat_map}
use Rattle.dss_layout.specs.fd_exact.States.{State}
use Rattle.dss_layout.specs.fd_arith.declared.terms.Ends.{Ends}
use Rattle.dss_layout.specs.fd_arith.declared.terms.TapPair.{TapPair}
use Rattle.fd_xfmr.specs.fd_system.declared.loads.LoadAt.{LoadAt}
use Rattle.fd_xfmr.specs.fd_system.Equations.{Part, equation}
use Rattle.fd_xfmr.specs.fd_system.Loads.{load_parts, IsLoad}
use Rattle.fd_xfmr.specs.fd_system.System.{StampView, Represents, residual_of, joined, loads_stamp, stamp_with}
use Rattle.fd_xfmr.specs.fd_system.Meets.{Meets}
use Rattle.fd_elements.specs.fd_line.declared.data.LineData.{LineData}
use Rattle.fd_elements.specs.fd_line.Line.{line_list, line_parts}
use Rattle.fd_elements.specs.fd_source.declared.data.SourceData.{SourceData}
use Rattle.fd_elements.specs.fd_source.Equations.{stamp_from, source_constants, source_list, source_parts}
use Rattle.fd_xfmr.specs.declared.data.XfmrData.{XfmrData}
use Rattle.fd_xfmr.specs.Leakage.{AreTaps, IsXfmr}
use Rattle.fd_xfmr.specs.Transformer.{xfmr_list, xfmr_parts}
use Rattle.fd_cap.specs.declared.data.CapData.{CapData}
use Rattle.fd_cap.specs.Capacitor.{IsCap, cap_draw_of, cap_list, cap_parts}

-- a transformer stands at its taps, a capacitor bank is closed or not, and a load is the part loads of its phases; `other` takes no part in the equations
pub data Device : Type 0 where
  source : SourceData → Ends → Device
  line : LineData → Ends → Device
  transformer : XfmrData → TapPair → Ends → Device
  capacitor : CapData → Bool → Ends → Device
  loads : List LoadAt → Device
  other : Device

-- the parts of complex equations that a device adds to the rows
abbrev pub device_parts : Device → State → List Part
device_parts (source s at) x = source_parts s at x
device_parts (line l at) x = line_parts l at x
device_parts (transformer t taps at) x = xfmr_parts t taps at x
device_parts (capacitor c closed at) x = cap_parts c closed at x
device_parts (loads us) x = flat_map (λ u. load_parts u x) us
device_parts other x = []

-- its constants, contributions and part loads, and what it draws
abbrev pub device_stamp : Device → StampView
device_stamp (source s at) = stamp_from at (source_constants s) (source_list s at)
device_stamp (line l at) = stamp_with [] (line_list l at) [] 0
device_stamp (transformer t taps at) = stamp_with [] (xfmr_list t taps at) [] 0
device_stamp (capacitor c closed at) = stamp_with [] (cap_list c closed at) [] (cap_draw_of c closed)
device_stamp (loads us) = loads_stamp us
device_stamp other = stamp_with [] [] [] 0

-- the condition on a device's data
abbrev pub IsGood : Device → Type 0
IsGood (loads us) = All IsLoad us
IsGood (source s at) = Unit {0}
IsGood (line l at) = Unit {0}
IsGood (transformer t taps at) = IsXfmr t × AreTaps taps
IsGood (capacitor c closed at) = IsCap c
IsGood other = Unit {0}

-- ---- all devices, in order

abbrev pub parts_of_all : List Device → State → List Part
parts_of_all ds x = flat_map (λ d. device_parts d x) ds

abbrev pub stamp_of_all : List Device → StampView
stamp_of_all ds = joined (map device_stamp ds)

-- the two levels give the same number in every row at every state, so a state meets numbers in one where it does in the other
pub record AgreesWith (s : StampView) (ps : State → List Part) : Type 0 where
  pub same : Represents s ps
  pub up : (e : ℕ → ℕ) (n : ℕ) (x : State) → 0 < x.over → Meets (residual_of s) e n x → Meets (λ y l. equation l (ps y)) e n x
  pub down : (e : ℕ → ℕ) (n : ℕ) (x : State) → 0 < x.over → Meets (λ y l. equation l (ps y)) e n x → Meets (residual_of s) e n x

abbrev pub DeviceLaw : Type 0
DeviceLaw = (ds : List Device) → All IsGood ds → AgreesWith (stamp_of_all ds) (parts_of_all ds)
