-- The settings that a script gives: the taps and states of its elements, and the powers of its loads.
use Rattle.std.specs.Prelude.{ℕ, ◌*◌, ◌-◌, ◌^◌, nat_le, ℤ, pos, nat_abs, Bool, true, false, List, map, replicate, All}
use Rattle.std.specs.List.{flat_map}
use Rattle.std.specs.Option.{unwrap_or}
use Rattle.fd_devices.specs.fd_exact.Rounding.{signed, differ}
use Rattle.fd_devices.specs.fd_arith.declared.terms.TapPair.{TapPair}
use Rattle.fd_devices.specs.dss_model.Ranges.{ones}
use Rattle.fd_devices.specs.dss_model.declared.words.BankState.{BankState}
use Rattle.fd_devices.specs.dss_model.declared.words.BankState.TheVariants as bank_state
use Rattle.fd_devices.specs.dss_model.declared.words.ReactiveRule.{ReactiveRule}
use Rattle.fd_devices.specs.dss_model.declared.words.ReactiveRule.TheVariants as rule
use Rattle.fd_devices.specs.dss_model.declared.capacitor.Capacitor.{Capacitor}
use Rattle.fd_devices.specs.dss_model.declared.load.Load.{Load}
use Rattle.fd_devices.specs.dss_model.declared.transformer.Transformer.{Transformer}
use Rattle.fd_devices.specs.dss_model.declared.element.Element.{Element}
use Rattle.fd_devices.specs.dss_model.InRange.{ElementInRange}
use Rattle.fd_devices.specs.dss_layout.Layout.{Elements}
use Rattle.fd_devices.specs.fd_source.Powers.{greatest_such}
use Rattle.fd_devices.specs.fd_xfmr.Leakage.{AreTaps}
use Rattle.fd_devices.specs.fd_elements.declared.powers.LoadPower.{LoadPower}
use Rattle.fd_devices.specs.fd_elements.Powers.{phase_power, square}
use Rattle.fd_devices.specs.Kinds.{banks_in, loads_in, transformers_in}
use Rattle.fd_devices.specs.Settings.{AreSettings, Settings}

-- ---- positions

abbrev pub taps_of : Element → List TapPair
taps_of e = map (λ (t : Transformer). record { first = t.first.tap; second = t.second.tap }) (transformers_in e)

abbrev pub is_closed : BankState → Bool
is_closed bank_state.Open = false
is_closed bank_state.Closed = true

abbrev pub closed_of : Element → List Bool
closed_of e = map (λ (bank : Capacitor). is_closed bank.states) (banks_in e)

-- ---- powers

-- the size of Q by P and the power factor: the greatest number whose square times pf^2 is at most P^2 (1 - pf^2)
abbrev pub reactive_size : ℤ → ℤ → ℕ
reactive_size p pf = greatest_such (λ q. nat_le (q * q * square pf) (square p * (10 ^ 18 - square pf))) (10 ^ 9 * nat_abs p)

abbrev pub reactive_by : ReactiveRule → Load → ℤ → ℤ → ℤ
reactive_by rule.PowerFactor load point p = signed (differ p load.pf) (reactive_size p load.pf)
reactive_by rule.Kvar load point p = phase_power (unwrap_or load.kvar (pos 0)) point load.phases

-- the power of one phase of a load at a point of its shape, in 10^-9
abbrev pub power_of : Load → ℤ → LoadPower
power_of load point = record {
  p = phase_power load.kw point load.phases;
  q = reactive_by load.reactive load point (phase_power load.kw point load.phases);
}

-- the powers of an element's phases in a snapshot, in which the point of each shape is 1
abbrev pub powers_of : Element → List LoadPower
powers_of e = flat_map (λ (l : Load). replicate l.phases (power_of l (ones 1))) (loads_in e)

-- ---- all settings

abbrev pub snapshot_of : Elements → Settings
snapshot_of elements = record {
  taps = flat_map (λ e. taps_of e.1) elements;
  closed = flat_map (λ e. closed_of e.1) elements;
  powers = flat_map (λ e. powers_of e.1) elements;
}

-- there are as many of each kind as the elements have, and where the elements are in range so are their taps
pub record AreOfScript (elements : Elements) : Type 0 where
  pub counts : AreSettings elements (snapshot_of elements)
  pub taps : All (λ e. ElementInRange e.1) elements → All AreTaps (snapshot_of elements).taps

abbrev pub SnapshotLaw : Type 0
SnapshotLaw = (elements : Elements) → AreOfScript elements
