-- The branches of a ladder: a branch is a phase of the source, of a Line or of a Transformer, seen from the source.
use Rattle.std.specs.Prelude.{ℕ, ◌≤◌, ◌<◌, ◌^◌, ◌≡◌, ◌+◌, nat_abs, ℤ, pos, neg_ℤ, List, [], ◌∷◌, length, Bool, true, false, All, if◌then◌else◌}
use Rattle.fd_pattern.specs.fd_arith.declared.terms.Ends.{Ends}
use Rattle.fd_pattern.specs.fd_arith.declared.terms.NodeAt.{NodeAt}
use Rattle.fd_pattern.specs.fd_arith.declared.terms.NodeAt.TheVariants.{Ground, Node}
use Rattle.fd_pattern.specs.fd_system.declared.terminals.NodePair.{NodePair}
use Rattle.fd_pattern.specs.fd_system.Contributions.{IsSmall}
use Rattle.fd_rungs.specs.declared.branch.Branch.{Branch}
use Rattle.fd_rungs.specs.declared.branch.Shunt.{Shunt}
use Rattle.fd_rungs.specs.Numbers.{IsSmallCoefficient, SizedBy}

-- a node and ground
abbrev pub to_ground : NodeAt → NodePair
to_ground node = record { first = node; second = Ground }

-- ---- conditions

-- n coefficients
pub record IsCoefficients (n : ℕ) (row : List ℤ) : Type 0 where
  pub count : length row ≡ n
  pub small : SizedBy (2 ^ 100) row

-- a row of an impedance: as many resistances as reactances, at most three
pub record IsRow (r x : List ℤ) : Type 0 where
  pub same : length x ≡ length r
  pub few : length r ≤ 3
  pub r_small : SizedBy (2 ^ 100) r
  pub x_small : SizedBy (2 ^ 100) x

-- a voltage of at most 2^41 microvolt behind it, and coefficients in their ranges
pub record IsBranch (b : Branch) : Type 0 where
  pub re : nat_abs b.re ≤ 2 ^ 41
  pub im : nat_abs b.im ≤ 2 ^ 41
  pub ratio : IsSmallCoefficient b.ratio
  pub row : IsRow b.r b.x
  pub own : b.own < 2 ^ 31
  pub outer : IsSmall b.outer

abbrev pub IsShunt : Shunt → Type 0
IsShunt s = IsSmallCoefficient s.charge
