-- What a regulator wants at a voltage (OpenDSS manual, RegControl; the counting of steps is this profile's).
use Rattle.std.specs.Prelude.{ℕ, zero, suc, ◌≤◌, ℤ, ◌≤ℤ◌, int_lt, nat_le, min, max, Bool, not, if◌then◌else◌}
use Rattle.fd_queue.specs.Quantities.{Quantity}
use Rattle.fd_queue.specs.Decisions.{Decision, Raise, Hold, Lower}

-- voltages at the control, in whole microvolts
pub record Regulator : Type 0 where
  -- the ends of the band
  pub lo : ℤ
  pub hi : ℤ
  -- n steps below and above the set voltage
  pub under : ℕ → ℤ
  pub over : ℕ → ℤ
  -- the most steps at once, and the whole steps that are left up to the greatest tap and down to the least
  pub most : ℕ
  pub room_up : ℕ
  pub room_down : ℕ

-- the greatest number up to n at which p holds, 0 where there is none
abbrev pub greatest_within : (ℕ → Bool) → ℕ → ℕ
greatest_within p zero = 0
greatest_within p (suc n) = if p (suc n) then suc n else greatest_within p n

-- at least 1 step, then at most so many at once, then at most the room
abbrev pub capped : ℕ → ℕ → ℕ → ℕ
capped most room n = min (min (max n 1) most) room

-- the greatest n at which the quantity is at most n steps below the set voltage, or at least n steps above it
abbrev pub steps_up : Regulator → Quantity → ℕ
steps_up r q = capped r.most r.room_up (greatest_within (λ n. not (q.above (r.under n))) r.most)

abbrev pub steps_down : Regulator → Quantity → ℕ
steps_down r q = capped r.most r.room_down (greatest_within (λ n. not (q.below (r.over n))) r.most)

abbrev pub regulator_verdict : Regulator → Quantity → Decision
regulator_verdict r q =
    (if q.below r.lo then Raise (steps_up r q)
    else if q.above r.hi then Lower (steps_down r q)
    else Hold)

-- ---- the least value at which the verdict of an interval's low end changes

-- n steps fall under, and rise over, the set voltage
pub record AreSteps (r : Regulator) : Type 0 where
  pub falls : (j k : ℕ) → j ≤ k → r.under k ≤ℤ r.under j
  pub rises : (j k : ℕ) → j ≤ k → r.over j ≤ℤ r.over k

-- by what the low end wants
abbrev pub regulator_edge : Regulator → Decision → ℤ
regulator_edge r (Raise n) = (if nat_le 2 n then (if int_lt (r.under n) r.lo then r.under n else r.lo) else r.lo)
regulator_edge r Hold = r.hi
regulator_edge r (Lower n) = r.over (suc n)
