-- The sizes of admittances and ratios.
use Rattle.std.proofs.Common.{◌≡◌, ◌∙◌, ℕ, ◌+◌, ◌*◌, ◌≤◌, ◌^◌, ℤ, pos, negsuc, ◌≤ℤ◌, nat_abs, ◌*ℤ◌, ◌⊎◌, ⊎_elim, ap, arith}
use Rattle.std.proofs.Math.Nat.{mul-le-mul}
use Rattle.std.proofs.lemmas.Int.{ints, unsigned_abs-mul}
use Rattle.fd_pattern.proofs.CallerLemmas.fd_system.{phase_volts_between}
use Rattle.fd_pattern.specs.fd_arith.declared.terms.TapPair.{TapPair}
use Rattle.fd_cap.specs.declared.data.CapData.{CapData}
use Rattle.fd_cap.specs.Capacitor.{IsCap, cap_volts, volts_squared}
use Rattle.fd_xfmr.specs.declared.data.XfmrData.{XfmrData}
use Rattle.fd_xfmr.specs.Leakage.{AreTaps, IsXfmr, coefficients_of}
use Rattle.fd_xfmr.specs.Windings.{conn1, conn2, first_volts, kv1, kv2, second_volts}

one_phase : (n : ℕ) → (n ≡ 1) ⊎ (n ≡ 3) → 1 ≤ n
one_phase n h = ⊎_elim (λ e. omega (arith, e)) (λ e. omega (arith, e)) h

pub volts_least : (c : CapData) → IsCap c → 2 ^ 44 ≤ volts_squared c
volts_least c h =
    let between = phase_volts_between c.phases c.conn c.kv h.kv in
    let volts : 5773000 ≤ nat_abs (cap_volts c) = omega (arith, ints, between.least) in
    let square = mul-le-mul volts volts in
    let least : 2 ^ 44 ≤ nat_abs (cap_volts c) * nat_abs (cap_volts c) = omega (arith, square) in
    let all = mul-le-mul least (one_phase c.phases h.phases) in
    omega (arith, all)

pub ratio_most : (t : XfmrData) (taps : TapPair) → IsXfmr t → AreTaps taps → nat_abs (coefficients_of t taps).ratio ≤ 10 ^ 12 * 200000
ratio_most t taps h k =
    let between = phase_volts_between t.phases (conn2 t) (kv2 t) h.kv2 in
    let volts : nat_abs (second_volts t) ≤ 10 ^ 12 = omega (arith, ints, between.least, between.most) in
    let all = mul-le-mul volts k.second_most in
    rw (unsigned_abs-mul (second_volts t) (pos taps.second)) all

-- a product of numbers that are at least these
product_least : (z : ℤ) (n : ℕ) → pos 5773000 ≤ℤ z → 50000 ≤ n → pos 28865000000 ≤ℤ (z *ℤ pos n)
product_least (pos m) n h k =
    let low : 5773000 ≤ m = omega (arith, ints, h) in
    let all = mul-le-mul low k in
    omega (arith, ints, all)
product_least (negsuc m) n h k = absurd (omega (arith, ints, h))

pub over_least : (t : XfmrData) (taps : TapPair) → IsXfmr t → AreTaps taps → pos 28865000000 ≤ℤ (coefficients_of t taps).ratio_over
over_least t taps h k =
    let between = phase_volts_between t.phases (conn1 t) (kv1 t) h.kv1 in
    product_least (first_volts t) taps.first between.least k.first_least
