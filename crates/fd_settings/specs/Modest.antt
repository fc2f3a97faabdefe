-- The sizes of the powers of loads.
use Rattle.std.specs.Prelude.{ℕ, All}
use Rattle.fd_devices.specs.dss_model.InRange.{ElementInRange}
use Rattle.fd_devices.specs.dss_layout.Layout.{Elements}
use Rattle.fd_devices.specs.Building.{IsModest}
use Rattle.fd_settings.specs.Hours.{hour_powers}

-- where the elements are in range, no power at any hour is past 10^17 in size
abbrev pub ModestLaw : Type 0
ModestLaw = (elements : Elements) (hour : ℕ) → All (λ e. ElementInRange e.1) elements → All IsModest (hour_powers elements hour)
