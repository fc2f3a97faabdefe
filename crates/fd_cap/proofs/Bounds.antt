-- Bounds of a capacitor bank's numbers.
use Rattle.std.proofs.Common.{ℕ, ◌*◌, ◌<◌, ◌≤◌, ◌^◌, nat_abs, arith, ⊎_elim}
use Rattle.std.proofs.Math.Nat.{mul-le-mul, mul-pos}
use Rattle.std.proofs.lemmas.Int.{ints}
use Rattle.fd_system.proofs.CallerLemmas.{phase_volts_between}
use Rattle.fd_cap.specs.declared.data.CapData.{CapData}
use Rattle.fd_cap.specs.Capacitor.{IsCap, cap_volts, volts_squared}

-- ---- nominal voltages

pub volts_least : (d : CapData) → IsCap d → 5773000 ≤ nat_abs (cap_volts d)
volts_least d h = let b = phase_volts_between d.phases d.conn d.kv h.kv in omega (arith, ints, b.least)

pub volts_most : (d : CapData) → IsCap d → nat_abs (cap_volts d) ≤ 10 ^ 12
volts_most d h = let b = phase_volts_between d.phases d.conn d.kv h.kv in omega (arith, ints, b.least, b.most)

-- ---- their squares times the number of phases

pub phases_some : (d : CapData) → IsCap d → 0 < d.phases
phases_some d h = ⊎_elim (λ e. omega arith) (λ e. omega arith) h.phases

pub phases_few : (d : CapData) → IsCap d → d.phases ≤ 3
phases_few d h = ⊎_elim (λ e. omega arith) (λ e. omega arith) h.phases

pub squared_positive : (d : CapData) → IsCap d → 0 < volts_squared d
squared_positive d h =
    let l = volts_least d h in
    let v : 0 < nat_abs (cap_volts d) = omega arith in
    mul-pos (mul-pos v v) (phases_some d h)

pub squared_most : (d : CapData) → IsCap d → volts_squared d ≤ 3 * 10 ^ 24
squared_most d h =
    let m = volts_most d h in
    let p : volts_squared d ≤ 10 ^ 12 * 10 ^ 12 * 3 = mul-le-mul (mul-le-mul m m) (phases_few d h) in
    omega arith

-- the nominal voltage times the number of phases
pub draw_room : (v n : ℕ) → 5 * 10 ^ 6 ≤ v → 0 < n → 5 * 10 ^ 6 ≤ v * n
draw_room v n h k = let p : 5 * 10 ^ 6 * 1 ≤ v * n = mul-le-mul h k in omega arith
