-- What each operator of an interval answers, and that it holds what it has to hold.
use Rattle.std.specs.Prelude.{◌≡◌, ℕ, ℤ, pos, ◌*ℤ◌, ◌≤ℤ◌, ◌*◌}
use Rattle.fd_exact.specs.Fractions.{Fraction, fraction, ◌⊕◌, ◌⊖◌, ◌⊗◌, opposite}
use Rattle.fd_arith.specs.Interval.{Bounds, Holds, HoldsCoef, sum, difference, negation, hull_of, clamped, clipped, product, area_of, square_of, IsQuotientOf, IsRootOf}

pub record IsSum (a b r : Bounds) : Type 0 where
  pub ends : r ≡ sum a b
  pub holds : (x y : Fraction) → Holds a x → Holds b y → Holds r (x ⊕ y)

pub record IsDifference (a b r : Bounds) : Type 0 where
  pub ends : r ≡ difference a b
  pub holds : (x y : Fraction) → Holds a x → Holds b y → Holds r (x ⊖ y)

pub record IsNegation (a r : Bounds) : Type 0 where
  pub ends : r ≡ negation a
  pub holds : (x : Fraction) → Holds a x → Holds r (opposite x)

pub record IsHull (a b r : Bounds) : Type 0 where
  pub ends : r ≡ hull_of a b
  pub left : (x : Fraction) → Holds a x → Holds r x
  pub right : (x : Fraction) → Holds b x → Holds r x

pub record IsClamped (a : Bounds) (lo hi : ℤ) (r : Bounds) : Type 0 where
  pub ends : r ≡ clamped a lo hi
  pub holds : (x : Fraction) → Holds a x → Holds r (clipped lo hi x)

-- f is an interval of coefficients
pub record IsProduct (a f r : Bounds) : Type 0 where
  pub ends : r ≡ product a f
  pub holds : (x y : Fraction) → Holds a x → HoldsCoef f y → Holds r (x ⊗ y)

pub record IsArea (a b r : Bounds) : Type 0 where
  pub ends : r ≡ area_of a b
  pub holds : (x y : Fraction) → Holds a x → Holds b y → Holds r (x ⊗ y)

pub record IsSquare (a r : Bounds) : Type 0 where
  pub ends : r ≡ square_of a
  pub holds : (x : Fraction) → Holds a x → Holds r (x ⊗ x)

-- the quotient of x by m / q, in units of 2^-40
pub record IsQuotient (a d r : Bounds) : Type 0 where
  pub ends : IsQuotientOf a d r
  pub holds : (x : Fraction) (m q : ℕ) → Holds a x → Holds d (fraction (pos m) q)
      → HoldsCoef r (fraction (x.top *ℤ pos q) (x.over * m))

-- each number from 0 up whose square is held is held; a root that is no fraction lies between the ends
-- since its square lies between theirs
pub record IsRootEnds (s r : Bounds) : Type 0 where
  pub ends : IsRootOf s r
  pub holds : (x : Fraction) → pos 0 ≤ℤ x.top → Holds s (x ⊗ x) → Holds r x
  pub squares : (y : Fraction) → pos 0 ≤ℤ y.top → Holds s y → Holds (square_of r) y
