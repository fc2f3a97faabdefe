-- What the queue machine knows of controls: the devices that they move, where these stand, and times in milliseconds.
use Rattle.std.specs.Prelude.{ℕ, ◌+◌, ◌-◌, Bool, true, false, if◌then◌else◌, List, get_or, set}
use Rattle.fd_arith.specs.declared.terms.TapPair.{TapPair}

-- the taps of the transformers in units of 10^-5, and whether the banks are closed, in the script's order
pub record Positions : Type 0 where
  pub taps : List TapPair
  pub closed : List Bool

-- the winding that a regulator moves, by the number of its transformer; its tap step in units of 10^-5, and its delays
pub record TapChanger : Type 0 where
  pub transformer : ℕ
  pub is_second : Bool
  pub tap_step : ℕ
  pub delay : ℕ
  pub tap_delay : ℕ

-- the bank that a capacitor control switches, by its number, and its delays of closing and of opening
pub record BankSwitch : Type 0 where
  pub bank : ℕ
  pub delay : ℕ
  pub delay_off : ℕ
  pub dead_time : ℕ

pub data Control : Type 0 where
  Regulates : TapChanger → Control
  Switches : BankSwitch → Control

-- ---- a winding's tap

abbrev pub no_taps : TapPair
no_taps = record { first = 0; second = 0 }

abbrev pub tap_of : Bool → TapPair → ℕ
tap_of is_second pair = if is_second then pair.second else pair.first

abbrev pub set_tap : Bool → ℕ → TapPair → TapPair
set_tap is_second tap pair = if is_second then record pair { second = tap } else record pair { first = tap }

abbrev pub pair_at : Positions → ℕ → TapPair
pair_at at transformer = get_or at.taps transformer no_taps

abbrev pub tap_at : Positions → TapChanger → ℕ
tap_at at r = tap_of r.is_second (pair_at at r.transformer)

abbrev pub with_tap : Positions → TapChanger → ℕ → Positions
with_tap at r tap = record at { taps = set at.taps r.transformer (set_tap r.is_second tap (pair_at at r.transformer)) }

-- a tap this many units of 10^-5 up or down
abbrev pub moved_tap : Bool → ℕ → ℕ → ℕ
moved_tap true tap way = tap + way
moved_tap false tap way = tap - way

-- ---- a bank's state

abbrev pub is_closed : Positions → BankSwitch → Bool
is_closed at b = get_or at.closed b.bank false

abbrev pub with_bank : Positions → BankSwitch → Bool → Positions
with_bank at b state = record at { closed = set at.closed b.bank state }
