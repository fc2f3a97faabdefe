-- The interval residual of a row, and its mismatch.
use Rattle.std.specs.Prelude.{List, None, Option, Some, cond, eqb, get_or, set, max, nat_abs, pos, ℕ, ℤ, ◌+◌, ◌*◌, ◌*ℤ◌, ◌<ℤ◌, ◌<◌, ◌^◌, ◌≤ℤ◌, ◌-◌}
use Rattle.std.specs.List.{fold, All}
use Rattle.fd_arith.specs.fd_exact.Fractions.{Fraction}
use Rattle.fd_arith.specs.fd_exact.States.{State, part}
use Rattle.fd_arith.specs.Interval.{Bounds, capped, outward, product, sum}
use Rattle.fd_arith.specs.declared.terms.Term.{Term}
use Rattle.fd_arith.specs.declared.terms.NodeAt.{NodeAt}
use Rattle.fd_arith.specs.declared.terms.NodeAt.TheVariants.{Ground, Node}
use Rattle.fd_system.specs.declared.constants.Constant.{Constant}
use Rattle.fd_system.specs.Equations.{Part, both, alone, seen}
use Rattle.fd_system.specs.System.{StampView, nonlinear_of}

-- the state whose parts are these whole numbers
abbrev pub whole_state : List ℤ → State
whole_state x = record { parts = x; over = 1 }

-- a contribution at a point: the interval of its factor, times the exact part
abbrev pub term_interval : Term → List ℤ → Bounds
term_interval t x = product (capped (part x t.col) (part x t.col)) (outward (t.num *ℤ pos (2 ^ 40)) (nat_abs t.den))

-- a fraction, rounded outward to whole units
abbrev pub fraction_interval : Fraction → Bounds
fraction_interval f = outward f.top f.over

-- ---- a row's sum in the interval operators: constants, contributions, then what isn't linear, in order

abbrev pub with_constant : ℕ → Bounds → Constant → Bounds
with_constant l a c = cond (eqb c.row l) (sum a (capped c.value c.value)) a

abbrev pub with_term : List ℤ → ℕ → Bounds → Term → Bounds
with_term x l a t = cond (eqb t.row l) (sum a (term_interval t x)) a

abbrev pub with_part : ℕ → Bounds → Part → Bounds
with_part l a (both Ground z) = a
with_part l a (both (Node r) z) = cond (eqb (2 * r) l) (sum a (fraction_interval z.re)) (cond (eqb (2 * r + 1) l) (sum a (fraction_interval z.im)) a)
with_part l a (alone m f) = cond (eqb m l) (sum a (fraction_interval f)) a

abbrev pub linear_interval : List Constant → List Term → List ℤ → ℕ → Bounds
linear_interval cs ts x l = fold (with_term x l) (fold (with_constant l) (capped (pos 0) (pos 0)) cs) ts

abbrev pub residual_interval : StampView → List ℤ → ℕ → Bounds
residual_interval s x l = fold (with_part l) (linear_interval s.constants s.terms x l) (nonlinear_of s.loads (whole_state x))

-- ---- the mismatch

-- the greater size of an interval's ends; none where it is all
abbrev pub greater_size : Bounds → Option ℤ
greater_size None = None
greater_size (Some e) = Some (pos (max (nat_abs e.0) (nat_abs e.1)))

abbrev pub mismatch_of : StampView → List ℤ → ℕ → Option ℤ
mismatch_of s x l = greater_size (residual_interval s x l)

-- ---- the rows of a table of intervals

abbrev pub constant_added : List Bounds → Constant → List Bounds
constant_added rows c = set rows c.row (sum (get_or rows c.row None) (capped c.value c.value))

abbrev pub term_added : List ℤ → List Bounds → Term → List Bounds
term_added x rows t = set rows t.row (sum (get_or rows t.row None) (term_interval t x))

pub record IsTerm (n : ℕ) (t : Term) : Type 0 where
  pub row : t.row < n
  pub col : t.col < n
  pub positive : pos 0 <ℤ t.den
  pub most : t.den ≤ℤ pos (10 ^ 32)

-- both parts of the place are below n
abbrev pub IsPlace : ℕ → NodeAt → Type 0
IsPlace n Ground = Unit {0}
IsPlace n (Node k) = (2 * k + 1 < n) × (k < 2 ^ 31 - 1)

abbrev pub IsConstant : ℕ → Constant → Type 0
IsConstant n c = c.row < n

-- ---- what the interval residual asks for

-- the denominator is positive
abbrev pub HasDen : Term → Type 0
HasDen t = 0 < nat_abs t.den

-- a row sees a fraction with a positive denominator of each part
abbrev pub HasParts : ℕ → List Part → Type 0
HasParts l ps = All (λ p. 0 < (seen l p).over) ps
