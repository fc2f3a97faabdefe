-- Phasors and their magnitudes, as fractions and in the interval operators.
use Rattle.std.specs.Prelude.{ℕ, ℤ, pos, ◌*ℤ◌, ◌^◌, nat_abs}
use Rattle.fd_network.specs.fd_exact.Fractions.{Fraction, ◌⊕◌, ◌⊗◌}
use Rattle.fd_regctl.specs.fd_arith.Interval.{Bounds, sum, difference, negation, product, square_of, outward}
use Rattle.fd_regctl.specs.fd_arith.declared.cx.Cx.{Cx}
use Rattle.fd_network.specs.fd_system.Complex.{Complex}
use Rattle.fd_regctl.specs.fd_queue.Quantities.{Quantity, magnitude}

-- ---- as fractions

-- times a real number
abbrev pub scaled_by : Complex → Fraction → Complex
scaled_by z f = record { re = z.re ⊗ f; im = z.im ⊗ f }

-- the square of the magnitude
abbrev pub square_size : Complex → Fraction
square_size z = z.re ⊗ z.re ⊕ z.im ⊗ z.im

-- the magnitude
abbrev pub size_of : Complex → Quantity
size_of z = magnitude (nat_abs (square_size z).top) (square_size z).over

-- ---- in the interval operators

-- n / d as a coefficient, rounded outward
abbrev pub factor : ℤ → ℕ → Bounds
factor n d = outward (n *ℤ pos (2 ^ 40)) d

abbrev pub negative_interval : Cx Bounds → Cx Bounds
negative_interval z = record { re = negation z.re; im = negation z.im }

abbrev pub difference_interval : Cx Bounds → Cx Bounds → Cx Bounds
difference_interval y z = record { re = difference y.re z.re; im = difference y.im z.im }

-- times a real coefficient
abbrev pub scaled_interval : Cx Bounds → Bounds → Cx Bounds
scaled_interval z f = record { re = product z.re f; im = product z.im f }

-- times the complex coefficient r + j x
abbrev pub product_interval : Cx Bounds → Bounds → Bounds → Cx Bounds
product_interval z r x = record {
  re = difference (product z.re r) (product z.im x);
  im = sum (product z.re x) (product z.im r);
}

-- the square of the magnitude
abbrev pub square_interval : Cx Bounds → Bounds
square_interval z = sum (square_of z.re) (square_of z.im)
