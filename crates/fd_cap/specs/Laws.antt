-- What is true of a capacitor bank's stated contributions.
use Rattle.std.specs.Prelude.{◌≤◌, Bool, length, All}
use Rattle.fd_system.specs.fd_arith.declared.terms.Ends.{Ends}
use Rattle.fd_system.specs.Contributions.{IsDivided}
use Rattle.fd_system.specs.Equations.{AddsUp}
use Rattle.fd_cap.specs.declared.data.CapData.{CapData}
use Rattle.fd_cap.specs.Capacitor.{IsCap, cap_list, cap_parts}

-- they add up to the equations, have denominators in range and are at most 24
pub record AreCapTerms (d : CapData) (closed : Bool) (at : Ends) : Type 0 where
  pub adds_up : AddsUp (cap_list d closed at) (cap_parts d closed at)
  pub divided : All IsDivided (cap_list d closed at)
  pub few : length (cap_list d closed at) ≤ 24

abbrev pub CapLaw : Type 0
CapLaw = (d : CapData) (closed : Bool) (at : Ends) → IsCap d → AreCapTerms d closed at
