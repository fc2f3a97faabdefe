-- The weight of an unknown: what is large for it, in whole micro-units.
use Rattle.std.specs.Prelude.{ℕ, ◌+◌, ◌*◌, ◌/◌, ◌^◌, max, ℤ, pos, nat_abs, List}
use Rattle.fd_mat.specs.fd_exact.States.{part}
use Rattle.fd_pattern.specs.declared.layout.PlaceKind.{PlaceKind}
use Rattle.fd_pattern.specs.declared.layout.PlaceKind.TheVariants.{Node, Branch, Magnitude}
use Rattle.fd_pattern.specs.Views.{NetworkView, kind_of}
use Rattle.fd_equations.specs.Rounded.{list_of}

-- the sum of the sizes of the two parts of the complex unknown to which a place belongs
abbrev pub size_of_both : List ℤ → ℕ → ℕ
size_of_both x place = nat_abs (part x (2 * (place / 2))) + nat_abs (part x (2 * (place / 2) + 1))

-- both parts of a node: the sum of their sizes, and at least one volt; of a branch: one ampere more than 16 times the draw;
-- a magnitude: its size, and at least one volt
abbrev pub weight_by : PlaceKind → ℕ → List ℤ → ℕ → ℕ
weight_by Node draw x place = max (10 ^ 6) (size_of_both x place)
weight_by Branch draw x place = 16 * draw + 10 ^ 6
weight_by Magnitude draw x place = max (10 ^ 6) (nat_abs (part x place))

abbrev pub weight_at : NetworkView → List ℤ → ℕ → ℕ
weight_at v x place = weight_by (kind_of v place) v.stamp.draw x place

abbrev pub weights_of : NetworkView → List ℤ → List ℤ
weights_of v x = list_of v.size (λ place. pos (weight_at v x place))
