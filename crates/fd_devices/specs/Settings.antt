-- What is set of a circuit beside its script: taps, states of banks and powers of loads, each in order of definition.
use Rattle.std.specs.Prelude.{◌≡◌, ℕ, ◌≤◌, Bool, List, length, take, drop, All}
use Rattle.dss_layout.specs.fd_exact.Sums.{list_n}
use Rattle.dss_layout.specs.fd_arith.declared.terms.TapPair.{TapPair}
use Rattle.fd_elements.specs.declared.powers.LoadPower.{LoadPower}
use Rattle.dss_layout.specs.dss_model.declared.load.Load.{Load}
use Rattle.dss_layout.specs.dss_model.declared.element.Element.{Element}
use Rattle.dss_layout.specs.Layout.{Elements}
use Rattle.fd_xfmr.specs.Leakage.{AreTaps}
use Rattle.fd_devices.specs.Kinds.{banks_in, loads_in, transformers_in}
use Rattle.fd_devices.specs.declared.settings.SettingSlices.{SettingSlices}
use Rattle.fd_devices.specs.declared.settings.Positions.{Positions}
use Rattle.fd_devices.specs.declared.settings.Powers.{Powers}

-- a pair of taps for each Transformer, whether it is closed for each Capacitor, a power for each phase of each Load
pub record Settings : Type 0 where
  pub taps : List TapPair
  pub closed : List Bool
  pub powers : List LoadPower

abbrev pub settings_of : Positions → Powers → Settings
settings_of at powers = record { taps = at.taps; closed = at.closed; powers = powers.loads }

-- those of some elements
abbrev pub settings_in : SettingSlices → Settings
settings_in s = record { taps = s.taps.now; closed = s.closed.now; powers = s.powers.now }

-- ---- how many of each kind an element has

abbrev pub tap_count : Element → ℕ
tap_count e = length (transformers_in e)

abbrev pub bank_count : Element → ℕ
bank_count e = length (banks_in e)

abbrev pub power_count : Element → ℕ
power_count e = list_n (λ (l : Load). l.phases) (loads_in e)

-- there are as many of each kind as the elements have
pub record AreSettings (elements : Elements) (s : Settings) : Type 0 where
  pub taps : length s.taps ≡ list_n (λ e. tap_count e.1) elements
  pub closed : length s.closed ≡ list_n (λ e. bank_count e.1) elements
  pub powers : length s.powers ≡ list_n (λ e. power_count e.1) elements

-- as many of each kind as one element has, its taps in range
pub record AreOwn (e : Element) (s : Settings) : Type 0 where
  pub taps : length s.taps ≡ tap_count e
  pub closed : length s.closed ≡ bank_count e
  pub powers : length s.powers ≡ power_count e
  pub within : All AreTaps s.taps

-- ---- those of the elements in turn

-- there are as many of each kind as an element has
pub record HasOwn (e : Element) (s : Settings) : Type 0 where
  pub taps : tap_count e ≤ length s.taps
  pub closed : bank_count e ≤ length s.closed
  pub powers : power_count e ≤ length s.powers

-- those of the first element
abbrev pub own : Element → Settings → Settings
own e s = record { taps = take (tap_count e) s.taps; closed = take (bank_count e) s.closed; powers = take (power_count e) s.powers }

-- those of the elements after it
abbrev pub after : Element → Settings → Settings
after e s = record { taps = drop (tap_count e) s.taps; closed = drop (bank_count e) s.closed; powers = drop (power_count e) s.powers }
