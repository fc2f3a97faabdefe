-- When a circuit's network is in range, what its elements must be, and what their devices add.
use Rattle.std.specs.Prelude.{◌≡◌, ℕ, ◌+◌, ◌*◌, ◌<◌, ◌≤◌, ◌^◌, nat_abs, List, length, Bool, IsTrue, not, ◌&&◌, All}
use Rattle.std.specs.List.{list_all}
use Rattle.dss_layout.specs.Layout.{Elements, branch_phases}
use Rattle.dss_layout.specs.fd_exact.Sums.{list_n}
use Rattle.dss_layout.specs.fd_arith.declared.terms.Term.{Term}
use Rattle.fd_xfmr.specs.fd_system.declared.loads.LoadAt.{LoadAt}
use Rattle.fd_xfmr.specs.fd_system.Contributions.{AreSmall, IsDivided, IsSmall, IsWithin, are_small, term_units}
use Rattle.fd_xfmr.specs.fd_system.System.{StampView}
use Rattle.fd_elements.specs.declared.powers.LoadPower.{LoadPower}
use Rattle.fd_elements.specs.fd_load.Current.{AreLoadVoltages, is_past}
use Rattle.fd_pattern.specs.Coefficients.{linear_entry}
use Rattle.fd_pattern.specs.Conditions.{IsKnown, IsServed}
use Rattle.fd_devices.specs.Devices.{Device, IsGood, device_stamp, stamp_of_all}

-- ---- one device

-- no contribution of a device is past 2^54 in units of 2^-40, and none of its part loads is past its limit
abbrev pub device_fits : Device → Bool
device_fits d =
    list_all (λ t. are_small (term_units t)) (device_stamp d).terms
    && list_all (λ u. not (is_past u.load)) (device_stamp d).loads

abbrev pub DeviceFits : Device → Type 0
DeviceFits d = IsTrue (device_fits d)

-- at each place where a device has a contribution, the sum of all contributions is at most 2^54 in units of 2^-40
abbrev pub has_small_sums : List Term → Device → Bool
has_small_sums all d = list_all (λ t. are_small (linear_entry all t.row t.col)) (device_stamp d).terms

abbrev pub HasSmallSums : List Term → Device → Type 0
HasSmallSums all d = IsTrue (has_small_sums all d)

-- ---- all devices

-- each device fits, and the sum at each place is small
pub record AreInRange (ds : List Device) : Type 0 where
  pub each : All DeviceFits ds
  pub sums : (row col : ℕ) → AreSmall (linear_entry (stamp_of_all ds).terms row col)

-- ---- conditions

-- a power is at most 10^17 in size
pub record IsModest (power : LoadPower) : Type 0 where
  pub p : nat_abs power.p ≤ 10 ^ 17
  pub q : nat_abs power.q ≤ 10 ^ 17

-- a part load with voltages in their ranges and a power of at most 10^18 in size
pub record IsUsable (u : LoadAt) : Type 0 where
  pub voltages : AreLoadVoltages u.load
  pub p : nat_abs u.load.p ≤ 10 ^ 18
  pub q : nat_abs u.load.q ≤ 10 ^ 18
  pub first : IsSmall u.first
  pub second : IsSmall u.second

-- ---- what is collected

-- a contribution stands in the rows and columns of the first n complex unknowns
pub record IsInside (n : ℕ) (t : Term) : Type 0 where
  pub row : t.row < 2 * n
  pub col : t.col < 2 * n

-- at most b contributions, each of which stands among the first n complex unknowns and is at most 2^54 in units of 2^-40
pub record AreContributions (n b : ℕ) (ts : List Term) : Type 0 where
  pub inside : All (IsInside n) ts
  pub divided : All IsDivided ts
  pub within : All IsWithin ts
  pub few : length ts ≤ b

-- what m elements with b branches add, of n complex unknowns, the nodes first, and `size` real ones; each element has at most nine part
-- loads and draws at most 17.5 megaampere
pub record IsBounded (nodes n size m b : ℕ) (a : StampView) : Type 0 where
  pub terms : AreContributions n (64 * (m + b)) a.terms
  pub constants : All (IsKnown (2 * n)) a.constants
  pub few_constants : length a.constants ≤ 6 * m
  pub loads : All (IsServed nodes n size) a.loads
  pub few_loads : length a.loads ≤ 9 * m
  pub draw : a.draw ≤ 17_500_000_000_000 * m

-- a device with good data that fits, with b branches, of n complex unknowns, the nodes first, and `size` real ones
pub record IsSettled (nodes n size b : ℕ) (d : Device) : Type 0 where
  pub fits : DeviceFits d
  pub good : IsGood d
  pub bounded : IsBounded nodes n size 1 b (device_stamp d)

-- what the devices of these elements add, of n complex unknowns, the nodes first, and `size` real ones
pub record AreCollected (nodes n size : ℕ) (elements : Elements) (ds : List Device) (a : StampView) : Type 0 where
  pub stamp : a ≡ stamp_of_all ds
  pub fits : All DeviceFits ds
  pub good : All IsGood ds
  pub bounded : IsBounded nodes n size (length elements) (list_n (λ e. branch_phases e.1) elements) a
