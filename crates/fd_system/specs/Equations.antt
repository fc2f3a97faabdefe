-- The parts of complex equations that elements add to the rows at a state, and what a real row sees of them.
use Rattle.std.specs.Prelude.{ℕ, ◌+◌, ◌*◌, ◌<◌, cond, eqb, List}
use Rattle.fd_arith.specs.fd_exact.Fractions.{Fraction, fraction, nothing, Same}
use Rattle.fd_arith.specs.fd_exact.States.{State, part}
use Rattle.fd_arith.specs.declared.terms.Term.{Term}
use Rattle.fd_arith.specs.declared.terms.NodeAt.{NodeAt}
use Rattle.fd_arith.specs.declared.terms.NodeAt.TheVariants.{Ground, Node}
use Rattle.fd_system.specs.Complex.{Complex, none}
use Rattle.fd_system.specs.Contributions.{row_sum}
use Rattle.fd_arith.specs.fd_exact.Sums.{sum_of}

-- the complex unknown at a place, its real part at 2k and its imaginary part at 2k + 1; 0 at ground
abbrev pub unknown : State → NodeAt → Complex
unknown x Ground = none
unknown x (Node k) = record { re = fraction (part x.parts (2 * k)) x.over; im = fraction (part x.parts (2 * k + 1)) x.over }

-- a part of an equation: a complex number in the two rows of a place, or a real number in one row
pub data Part : Type 0 where
  both : NodeAt → Complex → Part
  alone : ℕ → Fraction → Part

-- what the real row l sees of a complex number at a place: its real part in row 2r, its imaginary part in row 2r + 1
abbrev pub side : ℕ → NodeAt → Complex → Fraction
side l Ground z = nothing
side l (Node r) z = cond (eqb (2 * r) l) z.re (cond (eqb (2 * r + 1) l) z.im nothing)

abbrev pub seen : ℕ → Part → Fraction
seen l (both r z) = side l r z
seen l (alone m f) = cond (eqb m l) f nothing

-- row l of the equations: the sum of what it sees of all parts
abbrev pub equation : ℕ → List Part → Fraction
equation l ps = sum_of (seen l) ps

-- the contributions add up to the parts, at every state and in every row
abbrev pub AddsUp : List Term → (State → List Part) → Type 0
AddsUp ts ps = (x : State) → 0 < x.over → (l : ℕ) → Same (row_sum l ts x) (equation l (ps x))
