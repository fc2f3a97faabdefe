-- What one step of the search, and its test, come to.
use Rattle.std.specs.Prelude.{◌≡◌, ◌≢◌, ℕ, ◌+◌, ◌<◌, ◌≤◌, ℤ, Bool, true, false, List, Some, None}
use Rattle.fd_cert.specs.fd_enclosure.Sound.{mismatches_of}
use Rattle.fd_inject.specs.Procedure.{first_moving}
use Rattle.fd_inject.specs.declared.fault.SolveFault.{SolveFault}
use Rattle.fd_inject.specs.declared.fault.SolveFault.TheVariants.{NoInverse, OutOfRange, NotConverged, NoMemory}
use Rattle.fd_inject.specs.declared.limits.Limits.{Limits}
use Rattle.fd_inject.specs.fd_equations.fd_exact.States.{part}
use Rattle.fd_inject.specs.fd_equations.fd_pattern.Views.{NetworkView}
use Rattle.fd_substitution.specs.fd_triangles.declared.pair.Pair.{Pair}
use Rattle.fd_substitution.specs.fd_triangles.fd_derived.declared.entries.Row.{Row}
use Rattle.fd_search.specs.States.{IsFine, StepEnds, mismatch_sum, next_state, update_at}

module _ (v : NetworkView) (order : List Pair) (rows : List Row) where
  -- a step from x leads to y
  pub record IsStepped (x y update : List ℤ) : Type 0 where
    pub fine : IsFine v order rows x
    pub state_is : y ≡ next_state v order rows x
    pub update_is : update ≡ update_at v order rows x

  -- a step from x behind so many others leads to y, and is the last one or not
  pub record IsTested (limits : Limits) (x y : List ℤ) (number : ℕ) (last : Bool) : Type 0 where
    pub fine : IsFine v order rows x
    pub state_is : y ≡ next_state v order rows x
    pub still : last ≡ true → first_moving v limits (next_state v order rows x) (update_at v order rows x) ≡ None
    pub moving : last ≡ false → first_moving v limits (next_state v order rows x) (update_at v order rows x) ≢ None
    pub more : last ≡ false → number + 1 < limits.max_iterations

  -- it is the last that is allowed, and moves this unknown by so much
  pub record IsLastAllowed (limits : Limits) (x : List ℤ) (number place steps : ℕ) (update : ℤ) : Type 0 where
    pub fine : IsFine v order rows x
    pub place_is : first_moving v limits (next_state v order rows x) (update_at v order rows x) ≡ Some place
    pub steps_are : steps ≡ number + 1
    pub all : limits.max_iterations ≤ steps
    pub update_is : update ≡ part (update_at v order rows x) place

  abbrev pub HasNoTest : Limits → List ℤ → ℕ → SolveFault → Type 0
  HasNoTest limits x number (NoInverse q cause) = ⊥
  HasNoTest limits x number (OutOfRange place step) = StepEnds v order rows x number place step
  HasNoTest limits x number (NotConverged place steps update) = IsLastAllowed limits x number place steps update
  HasNoTest limits x number NoMemory = Unit {0}

  -- a step from x was kept, since the sum of mismatches falls with it, or taken back
  pub record IsKept (x y : List ℤ) (old new : List ℕ) : Type 0 where
    pub state_is : y ≡ next_state v order rows x
    pub mismatches_are : new ≡ mismatches_of v y
    pub falls : mismatch_sum v (next_state v order rows x) < mismatch_sum v x

  pub record IsTakenBack (x y : List ℤ) (old new : List ℕ) : Type 0 where
    pub state_is : y ≡ x
    pub mismatches_are : new ≡ old
    pub stays : mismatch_sum v x ≤ mismatch_sum v (next_state v order rows x)

  pub record IsTried (x y : List ℤ) (old new : List ℕ) (kept : Bool) : Type 0 where
    pub fine : IsFine v order rows x
    pub if_kept : kept ≡ true → IsKept x y old new
    pub if_not : kept ≡ false → IsTakenBack x y old new
