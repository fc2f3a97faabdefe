-- What elements added before, and the settings at which they did.
use Rattle.std.specs.Prelude.{◌≡◌, ℕ, ◌+◌, ◌<◌, ◌≤◌, List, length, take, drop, map, get_or, All, Option}
use Rattle.std.specs.Option.{option_map}
use Rattle.dss_ready.specs.fd_arith.declared.terms.Term.{Term}
use Rattle.dss_ready.specs.dss_model.declared.element.Element.{Element}
use Rattle.dss_ready.specs.dss_layout.Layout.{Elements, LayoutView}
use Rattle.fd_devices.specs.fd_system.declared.constants.Constant.{Constant}
use Rattle.fd_devices.specs.fd_system.declared.loads.LoadAt.{LoadAt}
use Rattle.fd_devices.specs.fd_system.System.{StampView}
use Rattle.fd_devices.specs.Building.{DeviceFits}
use Rattle.fd_devices.specs.Devices.{device_stamp}
use Rattle.fd_devices.specs.Scripted.{device_of, devices_from}
use Rattle.fd_devices.specs.Settings.{AreSettings, HasOwn, Settings, after, own, settings_in}
use Rattle.fd_devices.specs.declared.settings.SettingSlices.{SettingSlices}
use Rattle.fd_network.specs.declared.assembly.Parts.{Parts}
use Rattle.fd_network.specs.declared.extents.Extent.{Extent}
use Rattle.fd_network.specs.declared.former.Former.{Former}
use Rattle.fd_network.specs.declared.former.StampSlices.{StampSlices}
use Rattle.fd_network.specs.Stamps.{extent_of, extents_of, parted}

-- ---- stamps one after another

pub record StampLists : Type 0 where
  pub extents : List Extent
  pub constants : List Constant
  pub terms : List Term
  pub loads : List LoadAt

abbrev pub lists_in : StampSlices → StampLists
lists_in s = record { extents = s.extents.now; constants = s.constants.now; terms = s.terms.now; loads = s.loads.now }

abbrev pub stamps_in : StampLists → List StampView
stamps_in v = parted v.extents v.constants v.terms v.loads

-- how much the first has, and the first
abbrev pub first_extent : StampLists → Extent
first_extent v = get_or v.extents 0 (record { constants = 0; terms = 0; loads = 0; draw = 0 })

abbrev pub first_stamp : StampLists → StampView
first_stamp v = record {
  constants = take (first_extent v).constants v.constants;
  terms = take (first_extent v).terms v.terms;
  loads = take (first_extent v).loads v.loads;
  draw = (first_extent v).draw;
}

-- the others
abbrev pub after_first : StampLists → StampLists
after_first v = record {
  extents = drop 1 v.extents;
  constants = drop (first_extent v).constants v.constants;
  terms = drop (first_extent v).terms v.terms;
  loads = drop (first_extent v).loads v.loads;
}

-- there is a first, and the lists have as much as it has
pub record HasFirst (v : StampLists) : Type 0 where
  pub some : 0 < length v.extents
  pub constants : (first_extent v).constants ≤ length v.constants
  pub terms : (first_extent v).terms ≤ length v.terms
  pub loads : (first_extent v).loads ≤ length v.loads

-- each stamp in the parts has as much as is said of it
abbrev pub AreExact : Parts → Type 0
AreExact p = p.extents.items ≡ map extent_of (parted p.extents.items p.constants.items p.rows.terms p.rows.loads)

-- ---- with their settings

pub record FormerView : Type 0 where
  pub stamps : StampLists
  pub at : Settings

abbrev pub former_in : Former → FormerView
former_in f = record { stamps = lists_in f.stamps; at = settings_in f.at }

abbrev pub formers_in : Option Former → Option FormerView
formers_in former = option_map former_in former

-- those of the elements after the first
abbrev pub after_former : Element → FormerView → FormerView
after_former e v = record { stamps = after_first v.stamps; at = after e v.at }

-- an element hasn't the settings that it had
abbrev pub IsMovedTo : Element → Settings → FormerView → Type 0
IsMovedTo e left v = ¬ (own e v.at ≡ own e left)

-- the stamps in the parts, which stand there at these settings
abbrev pub former_at : Parts → SettingSlices → FormerView
former_at p s = record {
  stamps = record { extents = p.extents.items; constants = p.constants.items; terms = p.rows.terms; loads = p.rows.loads };
  at = settings_in s;
}

-- the first stamp is that of an element at a place in order, at the first of the settings, and its device fits
pub record IsFormerOf (layout : LayoutView) (hertz place : ℕ) (e : Element) (v : FormerView) : Type 0 where
  pub first : HasFirst v.stamps
  pub settings : HasOwn e v.at
  pub extent : first_extent v.stamps ≡ extent_of (device_stamp (device_of layout hertz place e (own e v.at)))
  pub stamp : first_stamp v.stamps ≡ device_stamp (device_of layout hertz place e (own e v.at))
  pub fits : DeviceFits (device_of layout hertz place e (own e v.at))

-- they are those of elements of which the first stands at a place in order, at these settings, and their devices fit
pub record AreFormerFrom (layout : LayoutView) (hertz place : ℕ) (es : Elements) (v : FormerView) : Type 0 where
  pub settings : AreSettings es v.at
  pub extents : v.stamps.extents ≡ extents_of (devices_from layout hertz place es v.at)
  pub stamps : stamps_in v.stamps ≡ map device_stamp (devices_from layout hertz place es v.at)
  pub fits : All DeviceFits (devices_from layout hertz place es v.at)
