-- The powers of loads at an hour of a day: hour 0 is the snapshot, and at the hours from 1 on a load follows its shape.
use Rattle.std.specs.Prelude.{◌≡◌, ℕ, zero, suc, ◌%◌, ℤ, pos, List, length, get_or, replicate, take, Option, Some}
use Rattle.std.specs.List.{flat_map}
use Rattle.fd_devices.specs.fd_exact.Sums.{list_n}
use Rattle.fd_devices.specs.dss_model.Ranges.{ones}
use Rattle.fd_devices.specs.dss_model.declared.load.Load.{Load}
use Rattle.fd_devices.specs.dss_model.declared.loadshape.Loadshape.{Loadshape}
use Rattle.fd_devices.specs.dss_model.declared.element.Element.{Element}
use Rattle.fd_devices.specs.dss_model.declared.element.Element.TheVariants as the
use Rattle.fd_devices.specs.dss_model.declared.names.Class.TheVariants as class
use Rattle.fd_devices.specs.dss_layout.Layout.{Elements}
use Rattle.fd_devices.specs.dss_circuit.Lookups.{element_given}
use Rattle.fd_devices.specs.fd_elements.declared.powers.LoadPower.{LoadPower}
use Rattle.fd_devices.specs.Kinds.{loads_in}
use Rattle.fd_devices.specs.Settings.{power_count}
use Rattle.fd_settings.specs.Snapshot.{power_of, snapshot_of}

-- ---- the point of a shape

-- the points of a shape, in 10^-9: its first numbers
abbrev pub points_of : Loadshape → List ℤ
points_of shape = take shape.npts shape.mult

-- the point that many hours after the first, where the points begin anew after the last, and 0 where there is none (a
-- shape that is followed in a circuit that passed the tests of Solve has them all)
abbrev pub repeated_point : Loadshape → ℕ → ℤ
repeated_point shape passed = get_or (points_of shape) (passed % shape.npts) (pos 0)

-- ---- the point of a load

-- the point of the Loadshape that a load names, and 1 where it names none
abbrev pub followed_point : Option Element → ℕ → ℤ
followed_point (Some (the.Loadshape shape)) passed = repeated_point shape passed
followed_point other passed = ones 1

-- hour 1 has the first point
abbrev pub point_at : Elements → Load → ℕ → ℤ
point_at elements load zero = ones 1
point_at elements load (suc passed) = followed_point (element_given elements class.Loadshape load.daily) passed

-- ---- powers

-- the powers of an element's phases at an hour
abbrev pub element_powers : Elements → ℕ → Element → List LoadPower
element_powers elements hour e = flat_map (λ (l : Load). replicate l.phases (power_of l (point_at elements l hour))) (loads_in e)

-- the powers of all load phases at an hour, in order of definition
abbrev pub hour_powers : Elements → ℕ → List LoadPower
hour_powers elements hour = flat_map (λ e. element_powers elements hour e.1) elements

-- those of hour 0 are those of the snapshot, and at each hour there is a power for each phase of each Load
pub record AreHourPowers (elements : Elements) : Type 0 where
  pub snapshot : hour_powers elements 0 ≡ (snapshot_of elements).powers
  pub count : (hour : ℕ) → length (hour_powers elements hour) ≡ list_n (λ e. power_count e.1) elements

abbrev pub HoursLaw : Type 0
HoursLaw = (elements : Elements) → AreHourPowers elements
