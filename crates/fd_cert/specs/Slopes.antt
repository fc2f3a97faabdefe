-- The Jacobian with the radii of its slopes, by non-zeros, and what a row of an inverse is.
use Rattle.std.specs.Prelude.{◌≡◌, ℕ, ◌^◌, ◌≤◌, ℤ, pos, List, length}
use Rattle.fd_enclosure.specs.fd_equations.Matrices.{MatrixView}
use Rattle.fd_cert.specs.Totals.{AreWeighted}
use Rattle.fd_cert.specs.Columns.{AreWeights, HasEntries, HasWeights, IsMade}

-- a matrix has these radii for entries
abbrev pub HasRadii : MatrixView → (ℕ → ℕ → ℕ) → Type 0
HasRadii m R = HasEntries m (λ l j. pos (R l j))

-- a Jacobian, a number for each of its rows and a weight for each unknown, all of one size
pub record AreSlopes (m : MatrixView) (rows : List ℕ) (ws : List ℤ) : Type 0 where
  pub small : m.size ≤ 2 ^ 11
  pub jacobian : IsMade m
  pub radii : length rows ≡ m.size
  pub weights : AreWeights m.size ws

-- they have these entries, radii by weight, and weights
pub record HasSlopes (m : MatrixView) (rows : List ℕ) (ws : List ℤ) (J : ℕ → ℕ → ℤ) (R : ℕ → ℕ → ℕ)
    (w : ℕ → ℕ) : Type 0 where
  pub jacobian : HasEntries m J
  pub radii : AreWeighted m.size R w rows
  pub weights : HasWeights m.size ws w
