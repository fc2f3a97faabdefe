-- The states of a network that steps with factors lead to, from the start and from any state. What is past its range is
-- told with the number of steps that are done.
use Rattle.std.specs.Prelude.{◌≡◌, ◌≢◌, ℕ, zero, suc, ◌+◌, ◌<◌, ◌≤◌, ◌^◌, ℤ, List, Option, Some, None, ◌⊎◌}
use Rattle.std.specs.List.{fold}
use Rattle.fd_cert.specs.fd_enclosure.Sound.{mismatches_of}
use Rattle.fd_inject.specs.Procedure.{first_moving, with_nominal}
use Rattle.fd_inject.specs.Ranges.{SizesWithin, first_past}
use Rattle.fd_inject.specs.Updates.{moved}
use Rattle.fd_inject.specs.declared.fault.SolveFault.{SolveFault}
use Rattle.fd_inject.specs.declared.fault.SolveFault.TheVariants.{NoInverse, OutOfRange, NotConverged, NoMemory}
use Rattle.fd_inject.specs.declared.limits.Limits.{Limits}
use Rattle.fd_inject.specs.fd_equations.Rounded.{constants_of, rounded_residual_of}
use Rattle.fd_inject.specs.fd_equations.fd_exact.States.{part}
use Rattle.fd_inject.specs.fd_equations.fd_exact.Sums.{list_n}
use Rattle.fd_inject.specs.fd_equations.fd_pattern.Views.{NetworkView}
use Rattle.fd_substitution.specs.fd_triangles.declared.pair.Pair.{Pair}
use Rattle.fd_substitution.specs.fd_triangles.fd_derived.declared.entries.Row.{Row}
use Rattle.fd_search.specs.Moves.{CanMove, MoveEnds, changes}

-- the sum of all mismatches of a state
unfoldable pub mismatch_sum : NetworkView → List ℤ → ℕ
mismatch_sum v x = list_n (λ n. n) (mismatches_of v x)

module _ (v : NetworkView) (order : List Pair) (rows : List Row) where
  -- ---- one step

  -- how much a step from a state changes each unknown, and the state that it leads to
  unfoldable pub update_at : List ℤ → List ℤ
  update_at x = changes rows order (rounded_residual_of v x)

  unfoldable pub next_state : List ℤ → List ℤ
  next_state x = moved x (update_at x)

  -- nothing of it is past its range
  pub record IsFine (x : List ℤ) : Type 0 where
    pub moves : CanMove rows order (rounded_residual_of v x)
    pub within : SizesWithin (2 ^ 40) (next_state x)

  -- the first that is: on the way, before the step is done, or in the state that it leads to
  abbrev pub StepEnds : List ℤ → ℕ → ℕ → ℕ → Type 0
  StepEnds x number place step =
      (MoveEnds rows order (rounded_residual_of v x) place × (step ≡ number))
      ⊎ (CanMove rows order (rounded_residual_of v x)
      × ((first_past (2 ^ 40) (next_state x) ≡ Some place) × (step ≡ number + 1)))

  -- why there is no step from a state behind so many; want of memory says nothing
  abbrev pub HasNoStep : List ℤ → ℕ → SolveFault → Type 0
  HasNoStep x number (NoInverse q cause) = ⊥
  HasNoStep x number (OutOfRange place step) = StepEnds x number place step
  HasNoStep x number (NotConverged place steps update) = ⊥
  HasNoStep x number NoMemory = Unit {0}

  -- ---- the start

  -- what a step makes of the constants and a state of zeros, with each magnitude at its load's nominal voltage
  unfoldable pub first_state : List ℤ
  first_state = fold with_nominal (changes rows order (constants_of v)) v.stamp.loads

  pub record HasStart : Type 0 where
    pub moves : CanMove rows order (constants_of v)
    pub within : SizesWithin (2 ^ 40) first_state

  abbrev pub StartEnds : ℕ → Type 0
  StartEnds place =
      MoveEnds rows order (constants_of v) place
      ⊎ (CanMove rows order (constants_of v) × (first_past (2 ^ 40) first_state ≡ Some place))

  -- why there is no start
  abbrev pub HasNoStart : SolveFault → Type 0
  HasNoStart (NoInverse q cause) = ⊥
  HasNoStart (OutOfRange place step) = StartEnds place × (step ≡ 0)
  HasNoStart (NotConverged place steps update) = ⊥
  HasNoStart NoMemory = Unit {0}

  -- ---- many steps

  module _ (x : List ℤ) where
    abbrev pub state_after : ℕ → List ℤ
    state_after zero = x
    state_after (suc k) = next_state (state_after k)

    -- nothing of the first n steps is past its range
    abbrev pub AreFine : ℕ → Type 0
    AreFine n = (k : ℕ) → k < n → IsFine (state_after k)

    -- ---- until one moves nothing far

    module _ (limits : Limits) where
      -- the first unknown that the step behind k others moves by more than its tolerance, weighed behind the step
      abbrev pub moving_in : ℕ → Option ℕ
      moving_in k = first_moving v limits (state_after (suc k)) (update_at (state_after k))

      -- the first n steps can be taken, and each moves one
      pub record AreMoving (n : ℕ) : Type 0 where
        pub fine : AreFine n
        pub moving : (k : ℕ) → k < n → moving_in k ≢ None

      -- so many steps are taken: of them the last alone moves none
      pub record ComeToRest (steps : ℕ) : Type 0 where
        pub before : ℕ
        pub steps_are : steps ≡ before + 1
        pub few : before < limits.max_iterations
        pub are_moving : AreMoving before
        pub fine : IsFine (state_after before)
        pub still : moving_in before ≡ None

      -- a step behind fewer than are allowed can't be taken
      pub record EndMoving (place step : ℕ) : Type 0 where
        pub before : ℕ
        pub few : before < limits.max_iterations
        pub are_moving : AreMoving before
        pub ends : StepEnds (state_after before) before place step

      -- all that are allowed are taken, and the last moves this unknown by so much
      pub record StayMoving (place steps : ℕ) (update : ℤ) : Type 0 where
        pub before : ℕ
        pub steps_are : steps ≡ before + 1
        pub all : steps ≡ limits.max_iterations
        pub are_moving : AreMoving before
        pub fine : IsFine (state_after before)
        pub place_is : moving_in before ≡ Some place
        pub update_is : update ≡ part (update_at (state_after before)) place

      -- why they don't come to rest
      abbrev pub HaveNoRest : SolveFault → Type 0
      HaveNoRest (NoInverse q cause) = ⊥
      HaveNoRest (OutOfRange place step) = EndMoving place step
      HaveNoRest (NotConverged place steps update) = StayMoving place steps update
      HaveNoRest NoMemory = Unit {0}

    -- ---- as long as the sum of mismatches falls

    -- the first n steps can be taken, and with each the sum falls
    pub record Fall (n : ℕ) : Type 0 where
      pub fine : AreFine n
      pub falls : (k : ℕ) → k < n → mismatch_sum v (state_after (suc k)) < mismatch_sum v (state_after k)

    -- the sum falls with so many steps: with all 16, or the next can be taken, and with it the sum doesn't fall
    pub record FallFor (n : ℕ) : Type 0 where
      pub most : n ≤ 16
      pub fall : Fall n
      pub ends : (n ≡ 16)
          ⊎ (IsFine (state_after n) × (mismatch_sum v (state_after n) ≤ mismatch_sum v (state_after (suc n))))

    -- one of at most 16 steps can't be taken, behind so many others
    pub record EndFalling (number place step : ℕ) : Type 0 where
      pub before : ℕ
      pub few : before < 16
      pub fall : Fall before
      pub ends : StepEnds (state_after before) (number + before) place step

    -- why it isn't known for how many it falls
    abbrev pub HasNoFall : ℕ → SolveFault → Type 0
    HasNoFall number (NoInverse q cause) = ⊥
    HasNoFall number (OutOfRange place step) = EndFalling number place step
    HasNoFall number (NotConverged place steps update) = ⊥
    HasNoFall number NoMemory = Unit {0}
