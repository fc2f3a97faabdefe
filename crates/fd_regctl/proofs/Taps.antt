-- A verdict's steps keep a tap within its ends.
use Rattle.std.proofs.Common.{◌≡◌, ℕ, ◌-◌, ◌*◌, ◌/◌, ◌≤◌, Bool, true, false, cond, arith}
use Rattle.std.proofs.Math.Nat.{mul-le-mul_right, div-mul-le_self}
use Rattle.fd_queue.specs.Quantities.{Quantity}
use Rattle.fd_queue.specs.Decisions.{Raise, Hold, Lower}
use Rattle.fd_regctl.specs.Regulator.{capped, regulator_verdict, steps_up, steps_down}
use Rattle.fd_regctl.specs.Settings.{RegSettings, regulator_at, room_up, room_down}
use Rattle.fd_regctl.specs.RegulatorLaws.{StaysWithin, StepsUp, StepsDown}

few_by : (most room n : ℕ) → capped most room n ≤ most
few_by most room n = omega arith

roomy : (most room n : ℕ) → capped most room n ≤ room
roomy most room n = omega arith

-- as many whole steps as fit into a way
fits : (n way step : ℕ) → n ≤ way / step → n * step ≤ way
fits n way step h = omega (arith, mul-le-mul_right step h, div-mul-le_self way step)

none_by : (n way step : ℕ) → n ≤ way / step → way ≡ 0 → n ≡ 0
none_by n way step h e = omega (arith, zero_way way step e)
  where
    zero_way : (way step : ℕ) → way ≡ 0 → way / step ≡ 0
    zero_way way step e = omega (arith, div-mul-le_self way step)

up_within : (s : RegSettings) (tap n : ℕ) → StepsUp s tap (capped s.most (room_up s tap) n)
up_within s tap n =
    let m = capped s.most (room_up s tap) n in
    let few = roomy s.most (room_up s tap) n in
    record {
      few = few_by s.most (room_up s tap) n;
      within = λ h. let w = fits m (s.max_tap - tap) s.changer.tap_step few in omega arith;
      none = λ h. none_by m (s.max_tap - tap) s.changer.tap_step few (omega arith);
    }

down_within : (s : RegSettings) (tap n : ℕ) → StepsDown s tap (capped s.most (room_down s tap) n)
down_within s tap n =
    let m = capped s.most (room_down s tap) n in
    let few = roomy s.most (room_down s tap) n in
    record {
      few = few_by s.most (room_down s tap) n;
      within = λ h. let w = fits m (tap - s.min_tap) s.changer.tap_step few in omega arith;
      none = λ h. none_by m (tap - s.min_tap) s.changer.tap_step few (omega arith);
    }

by_tests : (s : RegSettings) (tap m n : ℕ) (t u : Bool) → StepsUp s tap m → StepsDown s tap n →
    StaysWithin s tap (cond t (Raise m) (cond u (Lower n) Hold))
by_tests s tap m n true u h k = h
by_tests s tap m n false true h k = k
by_tests s tap m n false false h k = tt

pub stays_within : (s : RegSettings) (tap : ℕ) (q : Quantity) →
    StaysWithin s tap (regulator_verdict (regulator_at s tap) q)
stays_within s tap q =
    let r = regulator_at s tap in
    by_tests s tap (steps_up r q) (steps_down r q) (q.below r.lo) (q.above r.hi) (up_within s tap _)
    (down_within s tap _)
