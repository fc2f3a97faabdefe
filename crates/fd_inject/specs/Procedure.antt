-- The procedure: a start, steps with one inverse until no watched unknown moves far, a new inverse and two steps more. Iterates are
-- numbered from 0, the start, and the first fault ends it.
use Rattle.std.specs.Prelude.{ℕ, zero, suc, ◌+◌, ◌*◌, ◌≤◌, ◌^◌, ℤ, pos, ◌≤ℤ◌, nat_abs, nat_lt, Bool, true, false, if◌then◌else◌, List, set, Option, Some, None, Result, Ok, Err}
use Rattle.std.specs.List.{fold}
use Rattle.std.specs.Option.{option_map_or}
use Rattle.fd_equations.specs.fd_exact.States.{part}
use Rattle.fd_equations.specs.fd_exact.Results.{and_then}
use Rattle.fd_equations.specs.fd_exact.First.{first_place}
use Rattle.fd_equations.specs.fd_system.declared.loads.LoadAt.{LoadAt}
use Rattle.fd_equations.specs.Rounded.{constants_of, jacobian_of, rounded_residual_of, start_matrix_of}
use Rattle.fd_equations.specs.fd_pattern.Views.{NetworkView, kind_of}
use Rattle.fd_equations.specs.Weights.{weights_of}
use Rattle.fd_equations.specs.fd_pattern.declared.layout.PlaceKind.{PlaceKind}
use Rattle.fd_equations.specs.fd_pattern.declared.layout.PlaceKind.TheVariants.{Node, Branch, Magnitude}
use Rattle.fd_inject.specs.Ranges.{in_range, inverse_at}
use Rattle.fd_inject.specs.Updates.{moved, update_for}
use Rattle.fd_inject.specs.declared.fault.SolveFault.{SolveFault}
use Rattle.fd_inject.specs.declared.fault.SolveFault.TheVariants.{NotConverged}
use Rattle.fd_inject.specs.declared.limits.Limits.{Limits}

-- the ranges of limits
pub record IsLimits (limits : Limits) : Type 0 where
  pub one_step : 1 ≤ limits.max_iterations
  pub few_steps : limits.max_iterations ≤ 1000
  pub least : pos 1 ≤ℤ limits.tolerance
  pub most : limits.tolerance ≤ℤ pos (10 ^ 8)

-- ---- the start

-- the magnitude of a load starts at the load's nominal voltage
unfoldable pub with_nominal : List ℤ → LoadAt → List ℤ
with_nominal x u = option_map_or (λ place. set x place u.load.vn) u.magnitude x

-- iterate 0: what the inverse gives for the constants, which are the residual of the state 0, and the magnitudes at nominal voltage
unfoldable pub start_of : NetworkView → List (List ℤ) → Result (List ℤ) SolveFault
start_of v c = and_then (update_for c 0 (constants_of v)) (λ x. in_range (2 ^ 40) 0 (fold with_nominal x v.stamp.loads))

-- ---- steps

-- the iterate after this one, and its update
unfoldable pub stepped : NetworkView → List (List ℤ) → ℕ → List ℤ → Result (List ℤ × List ℤ) SolveFault
stepped v c number x =
    and_then (update_for c number (rounded_residual_of v x))
    (λ update. and_then (in_range (2 ^ 40) (number + 1) (moved x update)) (λ y. Ok (y, update)))

-- an update is more than the tolerance, in units of 10^-9, times the weight
abbrev pub is_far : ℤ → ℤ → ℤ → Bool
is_far tolerance weight update = nat_lt (nat_abs tolerance * nat_abs weight) (nat_abs update * 10 ^ 9)

-- the end test looks at nodes and magnitudes, and not at branches
abbrev pub is_moving : PlaceKind → ℤ → ℤ → ℤ → Bool
is_moving Node tolerance weight update = is_far tolerance weight update
is_moving Branch tolerance weight update = false
is_moving Magnitude tolerance weight update = is_far tolerance weight update

-- the same of the unknown at a place, for the update that led to the iterate y, and the weight at y
abbrev pub is_moving_at : NetworkView → Limits → List ℤ → List ℤ → ℕ → Bool
is_moving_at v limits y update place = is_moving (kind_of v place) limits.tolerance (part (weights_of v y) place) (part update place)

-- the first place that the end test finds moving
unfoldable pub first_moving : NetworkView → Limits → List ℤ → List ℤ → Option ℕ
first_moving v limits y update = first_place (is_moving_at v limits y update) v.size

-- an iterate, and whether the iteration ends with it
pub record Iterate : Type 0 where
  pub number : ℕ
  pub x : List ℤ
  pub is_last : Bool

-- an iterate after the end test
abbrev pub judged : Limits → ℕ → List ℤ × List ℤ → Option ℕ → Result Iterate SolveFault
judged limits number s None = Ok (record { number = number; x = s.0; is_last = true })
judged limits number s (Some place) = (if nat_lt number limits.max_iterations
    then Ok (record { number = number; x = s.0; is_last = false })
    else Err (NotConverged place number (part s.1 place)))

unfoldable pub next_iterate : NetworkView → Limits → List (List ℤ) → ℕ → List ℤ → Result Iterate SolveFault
next_iterate v limits c number x = and_then (stepped v c number x) (λ s. judged limits (number + 1) s (first_moving v limits s.0 s.1))

-- what follows an iterate: itself, if the iteration ended with it
abbrev pub after : NetworkView → Limits → List (List ℤ) → Iterate → Result Iterate SolveFault
after v limits c i = (if i.is_last then Ok i else next_iterate v limits c i.number i.x)

-- what is reached from the start x by this many steps at most
abbrev pub iterated : NetworkView → Limits → List (List ℤ) → List ℤ → ℕ → Result Iterate SolveFault
iterated v limits c x zero = Ok (record { number = 0; x = x; is_last = false })
iterated v limits c x (suc k) = and_then (iterated v limits c x k) (after v limits c)

-- the number of the iterate with which the steps from the start x end, and the iterate
unfoldable pub last_from : NetworkView → Limits → List (List ℤ) → List ℤ → Result (ℕ × List ℤ) SolveFault
last_from v limits c x = and_then (iterated v limits c x limits.max_iterations) (λ i. Ok (i.number, i.x))

-- with the inverse of the start matrix
unfoldable pub last_of : NetworkView → Limits → Result (ℕ × List ℤ) SolveFault
last_of v limits = and_then (inverse_at (start_matrix_of v)) (λ c. and_then (start_of v c) (last_from v limits c))

-- ---- two steps more

-- with the inverse c from the iterate of this number
unfoldable pub polished : NetworkView → ℕ → List ℤ → List (List ℤ) → Result (List ℤ × List (List ℤ)) SolveFault
polished v number x c = and_then (stepped v c number x) (λ s. and_then (stepped v c (number + 1) s.0) (λ t. Ok (t.0, c)))

-- the point: the state, and the inverse of the rounded Jacobian of the last iterate, with which it was reached
unfoldable pub solution_of : NetworkView → Limits → Result (List ℤ × List (List ℤ)) SolveFault
solution_of v limits = and_then (last_of v limits) (λ i. and_then (inverse_at (jacobian_of v i.1)) (polished v i.0 i.1))
