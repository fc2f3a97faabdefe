-- What a network asks of its parts, and its calls of a point.
use Rattle.std.specs.Prelude.{◌≡◌, ℕ, ◌+◌, ◌*◌, ◌^◌, ◌<◌, ◌≤◌, ℤ, pos, neg_ℤ, ◌≤ℤ◌, nat_abs, false, true, List, length, Option, Some, None}
use Rattle.fd_load.specs.fd_exact.States.{part}
use Rattle.fd_load.specs.fd_exact.Sums.{list_n}
use Rattle.std.specs.List.{All}
use Rattle.fd_load.specs.fd_arith.declared.terms.Term.{Term}
use Rattle.fd_load.specs.fd_arith.declared.terms.NodeAt.{NodeAt}
use Rattle.fd_load.specs.fd_arith.declared.terms.NodeAt.TheVariants.{Ground, Node}
use Rattle.fd_load.specs.fd_system.declared.constants.Constant.{Constant}
use Rattle.fd_load.specs.fd_arith.declared.terms.LoadModel.{LoadModel}
use Rattle.fd_load.specs.fd_arith.LoadModels.{has_magnitude}
use Rattle.fd_load.specs.fd_system.declared.loads.LoadAt.{LoadAt}
use Rattle.fd_load.specs.fd_system.Contributions.{AreSmall, IsWithin}
use Rattle.fd_load.specs.fd_system.Residual.{IsTerm}
use Rattle.fd_load.specs.Current.{IsLoadPhase}
use Rattle.fd_pattern.specs.Coefficients.{linear_entry}
use Rattle.fd_pattern.specs.Terminals.{count_magnitude}
use Rattle.fd_pattern.specs.Views.{NetworkView}

-- a contribution to a network of this size: its place is inside, and it is at most 2^54 in units of 2^-40
pub record IsLinear (size : ℕ) (t : Term) : Type 0 where
  pub term : IsTerm size t
  pub within : IsWithin t

-- contributions to a network of this size, fewer than 2^24
pub record AreLinear (size : ℕ) (ts : List Term) : Type 0 where
  pub each : All (IsLinear size) ts
  pub few : length ts < 2 ^ 24

-- a constant of a network of this size is at most 2^60 in size
pub record IsKnown (size : ℕ) (c : Constant) : Type 0 where
  pub row : c.row < size
  pub least : neg_ℤ (pos (2 ^ 60)) ≤ℤ c.value
  pub most : c.value ≤ℤ pos (2 ^ 60)

-- a place is ground or among the first n complex unknowns
abbrev pub IsAmong : ℕ → NodeAt → Type 0
IsAmong n Ground = Unit {0}
IsAmong n (Node k) = k < n

-- a load whose model has a magnitude has it behind the first n complex unknowns, and no other load has one
abbrev pub HasMagnitude : ℕ → ℕ → LoadModel → Option ℕ → Type 0
HasMagnitude n size model None = has_magnitude model ≡ false
HasMagnitude n size model (Some place) = (has_magnitude model ≡ true) × ((2 * n ≤ place) × (place < size))

-- a part load of a network whose first complex unknowns are its nodes and whose others are its branches: within the ranges of the
-- profile, between nodes, and never at a branch
pub record IsServed (nodes complexes size : ℕ) (u : LoadAt) : Type 0 where
  pub phase : IsLoadPhase u.load
  pub first : IsAmong nodes u.first
  pub second : IsAmong nodes u.second
  pub magnitude : HasMagnitude complexes size u.load.model u.magnitude

-- how many part loads have their magnitude at a place
abbrev pub magnitude_count : List LoadAt → ℕ → ℕ
magnitude_count us place = list_n (λ u. count_magnitude place u.magnitude) us

-- no two part loads have their magnitude at one place
abbrev pub AreApart : List LoadAt → Type 0
AreApart us = (place : ℕ) → magnitude_count us place ≤ 1

-- the condition on a network
pub record IsNetwork (v : NetworkView) : Type 0 where
  pub small : v.size ≤ 2 ^ 11
  -- the nodes are complex unknowns, and the magnitudes stand behind these
  pub nodes : v.nodes ≤ v.complexes
  pub unknowns : v.size ≡ 2 * v.complexes + v.magnitudes
  pub terms : AreLinear v.size v.stamp.terms
  -- the sum at each place is at most 2^54 in units of 2^-40
  pub entries : (row col : ℕ) → AreSmall (linear_entry v.stamp.terms row col)
  pub constants : All (IsKnown v.size) v.stamp.constants
  pub few_constants : length v.stamp.constants < 2 ^ 24
  pub loads : All (IsServed v.nodes v.complexes v.size) v.stamp.loads
  pub few_loads : length v.stamp.loads < 2 ^ 21
  pub apart : AreApart v.stamp.loads
  pub draw : 16 * v.stamp.draw + 10 ^ 6 ≤ 2 ^ 65

-- a part of a point is at most 2^40 in size
abbrev pub IsPart : ℤ → Type 0
IsPart z = (neg_ℤ (pos (2 ^ 40)) ≤ℤ z) × (z ≤ℤ pos (2 ^ 40))

-- a point of a network: a part for each unknown
pub record IsPoint (v : NetworkView) (x : List ℤ) : Type 0 where
  pub long : length x ≡ v.size
  pub parts : All IsPart x

-- sums of constants: each is at most 2^84 in size
abbrev pub AreKnown : List ℤ → Type 0
AreKnown rows = (row : ℕ) → nat_abs (part rows row) ≤ 2 ^ 84
