-- The residual of a network in intervals.
use Rattle.std.specs.Prelude.{ℕ, ◌+◌, ◌*◌, ◌≤◌, ℤ, nat_abs, cond, eqb, List, Option, None, Some}
use Rattle.fd_mat.specs.fd_exact.Fractions.{Fraction}
use Rattle.fd_pattern.specs.fd_arith.Interval.{Bounds, negation, outward, sum}
use Rattle.fd_pattern.specs.fd_arith.declared.terms.NodeAt.{NodeAt}
use Rattle.fd_pattern.specs.fd_arith.declared.terms.NodeAt.TheVariants.{Ground, Node}
use Rattle.fd_pattern.specs.fd_load.Current.{divisor, excess, in_phase, quadrature}
use Rattle.fd_pattern.specs.fd_system.declared.loads.LoadAt.{LoadAt}
use Rattle.fd_pattern.specs.fd_system.System.{StampView}
use Rattle.fd_pattern.specs.fd_system.Residual.{residual_interval}
use Rattle.fd_pattern.specs.Views.{NetworkView}
use Rattle.fd_pattern.specs.Coefficients.{row_count}
use Rattle.fd_equations.specs.PartLoads.{current_counts, load_current_counts}
use Rattle.fd_equations.specs.Rounded.{list_of}

-- the interval residual of each row at the point x
abbrev pub interval_residual_of : NetworkView → List ℤ → List Bounds
interval_residual_of v x = list_of v.size (residual_interval v.stamp x)

-- ---- what a part load adds to the interval a of row l

-- a current whose parts are these intervals, at a node
abbrev pub with_current : ℕ → Bounds → NodeAt → Bounds → Bounds → Bounds
with_current l a Ground re im = a
with_current l a (Node k) re im = cond (eqb (2 * k) l) (sum a re) (cond (eqb (2 * k + 1) l) (sum a im) a)

-- the row of a magnitude at its place
abbrev pub with_magnitude : ℕ → Bounds → Option ℕ → Bounds → Bounds
with_magnitude l a None b = a
with_magnitude l a (Some place) b = cond (eqb place l) (sum a b) a

-- its current at the voltage p + j q and the magnitude m, the same with its sign turned at its second node, and the row of its magnitude
unfoldable pub with_drawn : ℕ → Bounds → LoadAt → ℤ → ℤ → ℤ → Bounds
with_drawn l a u p q m =
    let d = divisor u.load p q m in
    let re = outward (in_phase u.load p q) d in
    let im = outward (quadrature u.load p q) d in
    with_magnitude l (with_current l (with_current l a u.first re im) u.second (negation re) (negation im))
    u.magnitude (outward (excess p q m) (nat_abs u.load.vn))

-- ---- how narrow it is

-- the contributions, load currents and magnitude rows in row l
abbrev pub summand_count : StampView → ℕ → ℕ
summand_count s l = row_count s.terms l + current_counts s.loads l

-- the contributions and load currents in row l
abbrev pub addend_count : StampView → ℕ → ℕ
addend_count s l = row_count s.terms l + load_current_counts s.loads l

-- both ends are at most the size of f and n more
abbrev pub EndsWithin : Bounds → Fraction → ℕ → Type 0
EndsWithin None f n = ⊥
EndsWithin (Some e) f n = (nat_abs e.0 * f.over ≤ nat_abs f.top + n * f.over) × (nat_abs e.1 * f.over ≤ nat_abs f.top + n * f.over)
