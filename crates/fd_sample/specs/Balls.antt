-- Balls of states: a centre and a radius for each unknown, in whole micro-units, and the intervals of the unknowns over
-- a ball.
use Rattle.std.specs.Prelude.{◌≡◌, ℕ, ◌+◌, ◌*◌, ◌^◌, ◌<◌, ◌≤◌, ℤ, pos, ◌+ℤ◌, ◌-ℤ◌, nat_abs, List, length, get_or, All}
use Rattle.fd_network.specs.fd_exact.States.{State, part, away}
use Rattle.fd_regctl.specs.fd_arith.Interval.{Bounds, capped, difference}
use Rattle.fd_regctl.specs.fd_arith.declared.cx.Cx.{Cx}
use Rattle.fd_regctl.specs.fd_arith.declared.terms.NodeAt.{NodeAt}
use Rattle.fd_regctl.specs.fd_arith.declared.terms.NodeAt.TheVariants.{Ground, Node}
use Rattle.fd_network.specs.fd_system.declared.terminals.NodePair.{NodePair}
use Rattle.fd_network.specs.fd_pattern.Conditions.{IsPart}

-- ---- states

abbrev pub radius_at : List ℕ → ℕ → ℕ
radius_at r i = get_or r i 0

-- parts and radii of at most 2^40
pub record IsBall (c : List ℤ) (r : List ℕ) : Type 0 where
  pub long : length r ≡ length c
  pub centre : All IsPart c
  pub radii : All (λ n. n ≤ 2 ^ 40) r

-- a state of any denominator of which each unknown is within its radius of the centre
pub record IsInBall (c : List ℤ) (r : List ℕ) (x : State) : Type 0 where
  pub over : 0 < x.over
  pub within : (i : ℕ) → i < length c → nat_abs (away c x i) ≤ x.over * radius_at r i

-- ---- intervals

-- of the real unknown at a place
abbrev pub place_interval : List ℤ → List ℕ → ℕ → Bounds
place_interval c r i = capped (part c i -ℤ pos (radius_at r i)) (part c i +ℤ pos (radius_at r i))

-- of the complex unknown at a place, by its parts; 0 at ground
abbrev pub interval_at : List ℤ → List ℕ → NodeAt → Cx Bounds
interval_at c r Ground = record { re = capped (pos 0) (pos 0); im = capped (pos 0) (pos 0) }
interval_at c r (Node k) = record { re = place_interval c r (2 * k); im = place_interval c r (2 * k + 1) }

-- of the first node's unknown less the second's
abbrev pub interval_across : List ℤ → List ℕ → NodePair → Cx Bounds
interval_across c r p = record {
  re = difference (interval_at c r p.first).re (interval_at c r p.second).re;
  im = difference (interval_at c r p.first).im (interval_at c r p.second).im;
}
