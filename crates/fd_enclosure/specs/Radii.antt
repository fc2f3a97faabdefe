-- The radii of slopes: by how much the slope of a row in a column may differ, anywhere in the box, from the rounded Jacobian's entry.
use Rattle.std.specs.Prelude.{ℕ, ◌+◌, ◌*◌, ℤ, cond, eqb, List, Option, Some, None}
use Rattle.fd_equations.specs.fd_exact.Sums.{list_n}
use Rattle.fd_slope.specs.fd_arith.declared.terms.NodeAt.{NodeAt}
use Rattle.fd_slope.specs.fd_arith.declared.terms.NodeAt.TheVariants.{Ground, Node}
use Rattle.fd_slope.specs.fd_arith.LoadModels.{is_linear}
use Rattle.fd_slope.specs.fd_system.declared.loads.LoadAt.{LoadAt}
use Rattle.fd_slope.specs.Changes.{radii_in}
use Rattle.fd_slope.specs.declared.radii.Radii.{Radii}
use Rattle.fd_slope.specs.declared.radii.RadiusRow.{RadiusRow}
use Rattle.fd_equations.specs.Rounded.{jacobian_count}
use Rattle.fd_equations.specs.fd_pattern.Views.{NetworkView}
use Rattle.fd_enclosure.specs.Boxes.{part_width}

-- ---- what stands at the place l

-- re at a node's real place, im at its imaginary place, and 0 elsewhere
abbrev pub spread_node : ℕ → NodeAt → ℕ → ℕ → ℕ
spread_node l Ground re im = 0
spread_node l (Node k) re im = cond (eqb (2 * k) l) re 0 + cond (eqb (2 * k + 1) l) im 0

-- m at the place of a magnitude
abbrev pub spread_magnitude : ℕ → Option ℕ → ℕ → ℕ
spread_magnitude l None m = 0
spread_magnitude l (Some place) m = cond (eqb place l) m 0

-- re and im at both nodes of a terminal, and m at its magnitude
unfoldable pub spread : ℕ → LoadAt → ℕ → ℕ → ℕ → ℕ
spread l u re im m = (spread_node l u.first re im + spread_node l u.second re im) + spread_magnitude l u.magnitude m

-- ---- a part load

-- the radius of a row's slope in the unknown of a column
abbrev pub radius_in : ℕ → LoadAt → RadiusRow → ℕ
radius_in col u r = spread col u r.p r.q r.m

-- what a part load with these radii adds in a row and a column; one of constant impedance stands in the contributions
unfoldable pub load_radius : LoadAt → Radii → ℕ → ℕ → ℕ
load_radius u r row col = cond (is_linear u.load.model) 0 (spread row u (radius_in col u r.real) (radius_in col u r.imaginary) (radius_in col u r.magnitude))

-- ---- a network

-- The radius at a place of row and column, in units of 2^-40: those of the slopes of part loads in the box of w / parts around c, and
-- 4 units for each summand of the Jacobian there, which covers its rounding.
unfoldable pub part_radius : ℕ → NetworkView → List ℤ → ℕ → ℕ → ℕ
part_radius parts v c row col =
    list_n (λ u. load_radius u (radii_in (part_width parts v c) c u) row col) v.stamp.loads + 4 * jacobian_count v row col

-- in the box of a two-hundredth
abbrev pub slope_radius : NetworkView → List ℤ → ℕ → ℕ → ℕ
slope_radius = part_radius 200
