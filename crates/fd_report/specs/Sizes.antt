-- The least and the greatest size of a phasor whose parts lie within radii, in whole micro-units.
use Rattle.std.specs.Prelude.{ℕ, ◌+◌, ◌-◌, ◌*◌, ℤ, nat_abs}
use Rattle.fd_inverse.specs.fd_exact.States.{part}
use Rattle.fd_sample.specs.Roots.{root_down, root_up}
use Rattle.fd_report.specs.Solutions.{SolutionView, number_at}

-- the least and the greatest size of a part that is at most r away from c
abbrev pub least_part : ℤ → ℕ → ℕ
least_part c r = nat_abs c - r

abbrev pub greatest_part : ℤ → ℕ → ℕ
greatest_part c r = nat_abs c + r

abbrev pub square : ℕ → ℕ
square n = n * n

-- of complex unknown k of a solution
module _ (s : SolutionView) (k : ℕ) where
  abbrev pub least_square : ℕ
  least_square =
      square (least_part (part s.centre (2 * k)) (number_at s.radii (2 * k)))
      + square (least_part (part s.centre (2 * k + 1)) (number_at s.radii (2 * k + 1)))

  abbrev pub greatest_square : ℕ
  greatest_square =
      square (greatest_part (part s.centre (2 * k)) (number_at s.radii (2 * k)))
      + square (greatest_part (part s.centre (2 * k + 1)) (number_at s.radii (2 * k + 1)))

  unfoldable pub least_size : ℕ
  least_size = root_down least_square

  unfoldable pub greatest_size : ℕ
  greatest_size = root_up greatest_square
