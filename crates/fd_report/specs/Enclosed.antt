-- What the least and the greatest size within the radii say of other states.
use Rattle.std.specs.Prelude.{ℕ, ◌+◌, ◌*◌, ◌≤◌, nat_abs}
use Rattle.fd_inverse.specs.fd_exact.States.{State, away, part}
use Rattle.fd_report.specs.Sizes.{greatest_size, least_size, square}
use Rattle.fd_report.specs.Solutions.{SolutionView, number_at}

-- part i of a state is within its radius of the solution's
abbrev pub IsPartNear : SolutionView → State → ℕ → Type 0
IsPartNear s x i = nat_abs (away s.centre x i) ≤ x.over * number_at s.radii i

-- the square of the size of complex unknown k at a state, over the square of the state's denominator
abbrev pub square_at : State → ℕ → ℕ
square_at x k = square (nat_abs (part x.parts (2 * k))) + square (nat_abs (part x.parts (2 * k + 1)))

-- the size of complex unknown k at a state is from the least to the greatest one
pub record IsSizeBetween (s : SolutionView) (x : State) (k : ℕ) : Type 0 where
  pub least : square (x.over * least_size s k) ≤ square_at x k
  pub greatest : square_at x k ≤ square (x.over * greatest_size s k)

-- it is so wherever both of its parts are within their radii
abbrev pub SizeLaw : Type 0
SizeLaw = (s : SolutionView) (x : State) (k : ℕ) → IsPartNear s x (2 * k) → IsPartNear s x (2 * k + 1) → IsSizeBetween s x k
