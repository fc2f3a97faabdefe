-- What elements in a layout must be so that what they add can be collected, and where they are out of range.
use Rattle.std.specs.Prelude.{◌≡◌, ℕ, ◌+◌, ◌<◌, [], ◌∷◌, List, length, All, Option, Some}
use Rattle.dss_ready.specs.dss_model.Ranges.{IsOneOf}
use Rattle.dss_ready.specs.dss_model.declared.element.Element.{Element}
use Rattle.dss_ready.specs.dss_layout.Layout.{Elements, LayoutView}
use Rattle.fd_devices.specs.fd_xfmr.Leakage.{AreTaps}
use Rattle.fd_devices.specs.Building.{DeviceFits, IsModest}
use Rattle.fd_devices.specs.Devices.{Device}
use Rattle.fd_devices.specs.Scripted.{device_of, devices_from}
use Rattle.fd_devices.specs.Settings.{AreSettings, HasOwn, Settings, own, settings_in}
use Rattle.fd_devices.specs.Standing.{HasPlace, IsReadyAt}
use Rattle.fd_network.specs.declared.fault.PlaceFault.{PlaceFault}
use Rattle.fd_network.specs.declared.fault.PlaceFault.TheVariants as place_fault
use Rattle.fd_devices.specs.declared.settings.SettingSlices.{SettingSlices}
use Rattle.fd_network.specs.Places.{AreReadyFrom}

-- ---- elements

-- an element, ready at its place, with settings of which its own come first
pub record IsTakenAt (layout : LayoutView) (hertz place : ℕ) (e : Element) (s : Settings) : Type 0 where
  pub frequency : IsOneOf (50 ∷ 60 ∷ []) hertz
  pub known : HasPlace layout place
  pub ready : IsReadyAt layout place e
  pub own : HasOwn e s
  pub within : All AreTaps s.taps
  pub modest : All IsModest s.powers

-- elements of which the first stands at a place in order, each ready at its place, with their settings
pub record AreTakenFrom (layout : LayoutView) (hertz place : ℕ) (elements : Elements) (s : Settings) : Type 0 where
  pub frequency : IsOneOf (50 ∷ 60 ∷ []) hertz
  pub places : (k : ℕ) → k < length elements → HasPlace layout (place + k)
  pub ready : AreReadyFrom layout place elements
  pub settings : AreSettings elements s
  pub within : All AreTaps s.taps
  pub modest : All IsModest s.powers

-- ---- devices

-- that of an element at a place, with the first of the settings that are left
abbrev pub device_at : LayoutView → ℕ → ℕ → Element → SettingSlices → Device
device_at layout hertz place e left = device_of layout hertz place e (own e (settings_in left))

-- those of all elements, with all settings
abbrev pub all_devices : LayoutView → ℕ → Elements → SettingSlices → List Device
all_devices layout hertz es left = devices_from layout hertz 0 es (settings_in left)

-- ---- faults

-- a fault is that of the device at a place, which doesn't fit; want of memory is free
abbrev pub IsMisfit : ℕ → Device → PlaceFault → Type 0
IsMisfit place d (place_fault.OutOfRange k) = (k ≡ place) × ¬ (DeviceFits d)
IsMisfit place d place_fault.NoMemory = Unit {0}

-- a fault names the place that is said; want of memory is free
abbrev pub NamesPlace : Option ℕ → PlaceFault → Type 0
NamesPlace said (place_fault.OutOfRange place) = said ≡ Some place
NamesPlace said place_fault.NoMemory = Unit {0}
