-- The procedure's definition gives no want of memory.
use Rattle.std.proofs.Common.{◌≡◌, ℕ, zero, suc, ℤ, Bool, true, false, List, Option, Some, None, Result, Ok, Err, ap}
use Rattle.std.proofs.Common.{if◌then◌else◌}
use Rattle.std.specs.Prelude.{nat_lt, ◌+◌, ◌^◌}
use Rattle.std.specs.List.{fold}
use Rattle.dss_commands.specs.fd_exact.States.{part}
use Rattle.fd_daily.specs.fd_equations.Rounded.{constants_of, jacobian_of, rounded_residual_of, start_matrix_of}
use Rattle.fd_daily.specs.fd_pattern.Views.{NetworkView}
use Rattle.dss_commands.specs.fd_exact.Results.{and_then}
use Rattle.fd_daily.specs.fd_mat.Rows.{first_column_past}
use Rattle.fd_daily.specs.fd_inverse.Elimination.{inverse_of}
use Rattle.fd_daily.specs.fd_inverse.declared.fault.Stop.{Stop}
use Rattle.fd_daily.specs.fd_inject.Procedure.{Iterate, after, first_moving, iterated, judged, last_from, last_of}
use Rattle.fd_daily.specs.fd_inject.Procedure.{next_iterate, polished, solution_of, start_of, stepped, with_nominal}
use Rattle.fd_daily.specs.fd_inject.Ranges.{first_past, in_range, inverse_at, inverse_unless, unless_past}
use Rattle.fd_daily.specs.fd_inject.Ranges.{without_inverse}
use Rattle.fd_daily.specs.fd_inject.Updates.{moved, update_for, update_of}
use Rattle.fd_daily.specs.fd_inject.declared.fault.SolveFault.{SolveFault}
use Rattle.fd_daily.specs.fd_inject.declared.fault.SolveFault.TheVariants.{NoMemory, NotConverged}
use Rattle.fd_daily.specs.fd_inject.declared.limits.Limits.{Limits}

-- a result that is no want of memory
abbrev Told : {A : Type 0} → Result A SolveFault → Type 0
Told r = r ≡ Err NoMemory → ⊥

followed : {A B : Type 0} (r : Result A SolveFault) (f : A → Result B SolveFault) → Told r → ((a : A) → Told (f a))
    → Told (and_then r f)
followed (Ok a) f h k is = k a is
followed (Err e) f h k is = h (let same : e ≡ NoMemory = cc is in ap Err same)

ok : {A : Type 0} (a : A) → Told (Ok a)
ok a is = cc is

past : (xs : List ℤ) (step : ℕ) (place : Option ℕ) → Told (unless_past xs step place)
past xs step None is = cc is
past xs step (Some place) is = cc is

ranged : (limit step : ℕ) (xs : List ℤ) → Told (in_range limit step xs)
unfolding in_range
ranged limit step xs = past xs step (first_past limit xs)

without : (r : Result (List (List ℤ)) (ℕ × Stop)) → Told (without_inverse r)
without (Ok c) is = cc is
without (Err e) is = cc is

inverse_by : (m : List (List ℤ)) (column : Option ℕ) → Told (inverse_unless m column)
inverse_by m None is = without (inverse_of m) is
inverse_by m (Some column) is = cc is

inverted : (m : List (List ℤ)) → Told (inverse_at m)
unfolding inverse_at
inverted m = inverse_by m (first_column_past (2 ^ 62) m)

updated : (c : List (List ℤ)) (step : ℕ) (residual : List ℤ) → Told (update_for c step residual)
unfolding update_for
updated c step residual =
    followed (in_range (2 ^ 58) step residual) (λ r. Ok (update_of c r)) (ranged (2 ^ 58) step residual)
    (λ r. ok (update_of c r))

step_told : (v : NetworkView) (c : List (List ℤ)) (n : ℕ) (x : List ℤ) → Told (stepped v c n x)
unfolding stepped
step_told v c n x =
    followed (update_for c n (rounded_residual_of v x))
    (λ u. and_then (in_range (2 ^ 40) (n + 1) (moved x u)) (λ y. Ok (y, u))) (updated c n (rounded_residual_of v x))
    (λ u.
    followed (in_range (2 ^ 40) (n + 1) (moved x u)) (λ y. Ok (y, u)) (ranged (2 ^ 40) (n + 1) (moved x u)) (λ y.
    ok (y, u)))

judged_told : (limits : Limits) (n : ℕ) (s : List ℤ × List ℤ) (place : Option ℕ) → Told (judged limits n s place)
judged_told limits n s None is = cc is
judged_told limits n s (Some place) is = cases (nat_lt n limits.max_iterations) is
  where
    cases : (b : Bool)
        → Told {A = Iterate}
        (if b then Ok (record { number = n; x = s.0; is_last = false }) else Err
        (NotConverged place n (part s.1 place)))
    cases true is = cc is
    cases false is = cc is

next_told : (v : NetworkView) (limits : Limits) (c : List (List ℤ)) (n : ℕ) (x : List ℤ)
    → Told (next_iterate v limits c n x)
unfolding next_iterate
next_told v limits c n x =
    followed (stepped v c n x) (λ s. judged limits (n + 1) s (first_moving v limits s.0 s.1)) (step_told v c n x)
    (λ s. judged_told limits (n + 1) s (first_moving v limits s.0 s.1))

after_told : (v : NetworkView) (limits : Limits) (c : List (List ℤ)) (i : Iterate) → Told (after v limits c i)
after_told v limits c i = cases i.is_last
  where
    cases : (b : Bool) → Told (if b then Ok i else next_iterate v limits c i.number i.x)
    cases true is = cc is
    cases false is = next_told v limits c i.number i.x is

iterated_told : (v : NetworkView) (limits : Limits) (c : List (List ℤ)) (x : List ℤ) (k : ℕ)
    → Told (iterated v limits c x k)
iterated_told v limits c x zero is = cc is
iterated_told v limits c x (suc k) is =
    followed (iterated v limits c x k) (after v limits c) (iterated_told v limits c x k)
    (λ i. after_told v limits c i) is

from_told : (v : NetworkView) (limits : Limits) (c : List (List ℤ)) (x : List ℤ) → Told (last_from v limits c x)
unfolding last_from
from_told v limits c x =
    followed (iterated v limits c x limits.max_iterations) (λ i. Ok (i.number, i.x))
    (iterated_told v limits c x limits.max_iterations) (λ i. ok (i.number, i.x))

start_told : (v : NetworkView) (c : List (List ℤ)) → Told (start_of v c)
unfolding start_of
start_told v c =
    followed (update_for c 0 (constants_of v)) (λ x. in_range (2 ^ 40) 0 (fold with_nominal x v.stamp.loads))
    (updated c 0 (constants_of v)) (λ x. ranged (2 ^ 40) 0 (fold with_nominal x v.stamp.loads))

last_told : (v : NetworkView) (limits : Limits) → Told (last_of v limits)
unfolding last_of
last_told v limits =
    followed (inverse_at (start_matrix_of v)) (λ c. and_then (start_of v c) (last_from v limits c))
    (inverted (start_matrix_of v)) (λ c.
    followed (start_of v c) (last_from v limits c) (start_told v c) (λ x. from_told v limits c x))

polished_told : (v : NetworkView) (n : ℕ) (x : List ℤ) (c : List (List ℤ)) → Told (polished v n x c)
unfolding polished
polished_told v n x c =
    followed (stepped v c n x) (λ s. and_then (stepped v c (n + 1) s.0) (λ t. Ok (t.0, c))) (step_told v c n x)
    (λ s. followed (stepped v c (n + 1) s.0) (λ t. Ok (t.0, c)) (step_told v c (n + 1) s.0) (λ t. ok (t.0, c)))

pub never_memory : (v : NetworkView) (limits : Limits) → Told (solution_of v limits)
unfolding solution_of
never_memory v limits =
    followed (last_of v limits) (λ i. and_then (inverse_at (jacobian_of v i.1)) (polished v i.0 i.1))
    (last_told v limits)
    (λ i. followed (inverse_at (jacobian_of v i.1)) (polished v i.0 i.1) (inverted (jacobian_of v i.1))
    (λ c. polished_told v i.0 i.1 c))
