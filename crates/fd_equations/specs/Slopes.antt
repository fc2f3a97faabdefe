-- How large the slopes of a part load are.
use Rattle.std.specs.Prelude.{◌≤◌, ◌^◌, nat_abs}
use Rattle.fd_pattern.specs.fd_load.declared.slopes.Slopes.{Slopes}
use Rattle.fd_pattern.specs.fd_load.declared.slopes.SlopeRow.{SlopeRow}

-- each slope of a row is at most 2^73 in size
pub record IsSlope (r : SlopeRow) : Type 0 where
  pub p : nat_abs r.p ≤ 2 ^ 73
  pub q : nat_abs r.q ≤ 2 ^ 73
  pub m : nat_abs r.m ≤ 2 ^ 73

pub record AreSlopes (s : Slopes) : Type 0 where
  pub real : IsSlope s.real
  pub imaginary : IsSlope s.imaginary
  pub magnitude : IsSlope s.magnitude
