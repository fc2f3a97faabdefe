-- Heights and bounds of rows over a state's equations, in the first box in which rows stand.
use Rattle.std.specs.Prelude.{◌≡◌, ℕ, ℤ, List, length, Some, Result, Ok, Err}
use Rattle.fd_bounds.specs.Results.{AreFirst, EndsAt}
use Rattle.fd_bounds.specs.Rows.{AreInOrder}
use Rattle.fd_bounds.specs.declared.passes.Bounds.{Bounds}
use Rattle.fd_cert.specs.fd_enclosure.fd_pattern.Views.{NetworkView}
use Rattle.fd_bounds.specs.fd_derived.declared.entries.Equation.{Equation}
use Rattle.fd_bounds.specs.fd_derived.declared.entries.Row.{Row}
use Rattle.fd_rowcert.specs.Equations.{AreEquationsOf, first_wide, radii_by}

module _ (v : NetworkView) (x : List ℤ) (e : List ℕ) (rows : List Row) where
  -- in the box of w / parts the rows have the heights and bounds of the first pass that stands
  pub record StandIn (parts : ℕ) (b : Bounds) : Type 0 where
    pub equations : List Equation
    pub are : AreEquationsOf v parts x e equations
    pub first : AreFirst equations rows b

  -- that box ends at q: the first row whose radii are past 2^62 together, or the unknown at which rows have no bounds
  pub data EndsIn (parts q : ℕ) : Type 0 where
    wide : first_wide v.size (radii_by parts v x) ≡ Some q → EndsIn parts q
    unbounded : (es : List Equation) → AreEquationsOf v parts x e es → EndsAt es rows q → EndsIn parts q

  abbrev pub HasNone : ℕ → Type 0
  HasNone parts = (q : ℕ) × EndsIn parts q

  -- the first of the boxes of 1/200, 1/2,000 and 1/20,000 of the weights in which rows stand
  pub data StandFirst (parts : ℕ) (b : Bounds) : Type 0 where
    widest : parts ≡ 200 → StandIn 200 b → StandFirst parts b
    second : parts ≡ 2000 → HasNone 200 → StandIn 2000 b → StandFirst parts b
    third : parts ≡ 20000 → HasNone 200 → HasNone 2000 → StandIn 20000 b → StandFirst parts b

  -- they stand in none, and the last ends at q
  pub record StandNowhere (q : ℕ) : Type 0 where
    pub first : HasNone 200
    pub second : HasNone 2000
    pub last : EndsIn 20000 q

-- where found, P of it; else Q of where it ended
abbrev pub Either : {X E : Type 0} → Result X E → (X → Type 0) → (E → Type 0) → Type 0
Either (Ok found) P Q = P found
Either (Err q) P Q = Q q

-- rows of n equations in the order of an elimination
abbrev pub AreInOrderOf : ℕ → List Row → Type 0
AreInOrderOf n rows = (es : List Equation) → length es ≡ n → AreInOrder es rows
