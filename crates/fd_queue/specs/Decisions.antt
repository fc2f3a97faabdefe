-- Decisions of controls, their order, and what is decided over an interval of quantities.
use Rattle.std.specs.Prelude.{◌≡◌, ◌≢◌, ◌⊎◌, ℕ, zero, suc, ℤ, pos, negsuc, ◌≤ℤ◌, Bool, true, false, not, if◌then◌else◌, Option, Some, None}
use Rattle.std.specs.Ordering.{int_eq}
use Rattle.fd_queue.specs.Quantities.{Quantity, AtMost, IsProper}

-- what a control wants at a quantity: to go up or down this many steps, or to stay
pub data Decision : Type 0 where
  Raise : ℕ → Decision
  Hold : Decision
  Lower : ℕ → Decision

abbrev pub steps_of : Decision → ℕ
steps_of (Raise n) = n
steps_of Hold = 0
steps_of (Lower n) = n

-- whether it raises
abbrev pub is_raise : Decision → Bool
is_raise (Raise n) = true
is_raise Hold = false
is_raise (Lower n) = false

-- the way of a decision of at least one step: up or down
abbrev pub way_of : Decision → Option Bool
way_of (Raise zero) = None
way_of (Raise (suc n)) = Some true
way_of Hold = None
way_of (Lower zero) = None
way_of (Lower (suc n)) = Some false

abbrev pub is_way : Bool → Option Bool → Bool
is_way up None = false
is_way up (Some true) = up
is_way up (Some false) = not up

-- ---- order

-- its place on the line: Raise with falling steps, Hold, Lower with rising steps
abbrev pub place : Decision → ℤ
place (Raise n) = negsuc n
place Hold = pos 0
place (Lower n) = pos (suc n)

abbrev pub same_decision : Decision → Decision → Bool
same_decision v w = int_eq (place v) (place w)

-- from a low quantity to a high one the decisions go along the line, or against it
abbrev pub GoesAlong : (Quantity → Decision) → Type 0
GoesAlong f = (q r : Quantity) → AtMost q r → place (f q) ≤ℤ place (f r)

abbrev pub GoesAgainst : (Quantity → Decision) → Type 0
GoesAgainst f = (q r : Quantity) → AtMost q r → place (f r) ≤ℤ place (f q)

-- they never go back
abbrev pub IsMonotone : (Quantity → Decision) → Type 0
IsMonotone f = GoesAlong f ⊎ GoesAgainst f

-- ---- over an interval

-- decided from low to high where both ends want the same
abbrev pub decided : (Quantity → Decision) → Quantity → Quantity → Option Decision
decided f low high = (if same_decision (f low) (f high) then Some (f low) else None)

-- what is decided is so at every quantity between the ends
abbrev pub IsOfAll : (Quantity → Decision) → Type 0
IsOfAll f = (low q high : Quantity) (v : Decision) → AtMost low q → AtMost q high →
    decided f low high ≡ Some v → f q ≡ v

-- every value of the interval below the edge wants what the low end wants, and none above it does
pub record IsEdge (f : Quantity → Decision) (low high : Quantity) (e : ℤ) : Type 0 where
  pub same : (q : Quantity) → IsProper q → AtMost low q → AtMost q high → q.below e ≡ true → f q ≡ f low
  pub other : (q : Quantity) → IsProper q → AtMost low q → AtMost q high → q.above e ≡ true → f q ≢ f low
