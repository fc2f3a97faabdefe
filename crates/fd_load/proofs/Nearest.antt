-- Quotients to the nearest over a multiple of the divisor.
use Rattle.std.proofs.Common.{◌≡◌, ◌∙◌, ℕ, suc, ◌+◌, ◌*◌, ◌/◌, ◌<◌, ◌≤◌, ◌^◌, ℤ, pos, negsuc, neg_ℤ, ◌*ℤ◌, arith, ap, sym}
use Rattle.std.proofs.Math.Nat.{mul-div-mul_left}
use Rattle.fd_system.specs.fd_exact.Integers.{neg-mul}
use Rattle.fd_system.specs.fd_exact.Rounding.{near_div}
use Rattle.fd_system.specs.fd_exact.Nearest.{near-neg}

-- ---- a factor of the number and of the divisor may be left out

scaled_nat : (a d k : ℕ) → 0 < k → (2 * (a * (k * k)) + k * d) / (2 * (k * d)) ≡ (2 * (a * k) + d) / (2 * d)
scaled_nat a d k h =
    let e : 2 * (a * (k * k)) + k * d ≡ k * (2 * (a * k) + d) = omega arith in
    let f : 2 * (k * d) ≡ k * (2 * d) = omega arith in
    rw (e, f) (mul-div-mul_left (2 * (a * k) + d) (2 * d) h)

scaled_pos : (a d k : ℕ) → 0 < k → near_div (pos a *ℤ pos (k * k)) (k * d) ≡ near_div (pos a *ℤ pos k) d
scaled_pos a d k h = ap pos (scaled_nat a d k h)

negative : (a k : ℕ) → (negsuc a *ℤ pos k) ≡ neg_ℤ (pos (suc a) *ℤ pos k)
negative a k = neg-mul (pos (suc a)) (pos k)

scaled_by : (z : ℤ) (d k : ℕ) → 0 < k → near_div (z *ℤ pos (k * k)) (k * d) ≡ near_div (z *ℤ pos k) d
scaled_by (pos a) d k h = scaled_pos a d k h
scaled_by (negsuc a) d k h =
    ap (λ z. near_div z (k * d)) (negative a (k * k))
    ∙ near-neg (pos (suc a) *ℤ pos (k * k)) (k * d)
    ∙ ap neg_ℤ (scaled_pos (suc a) d k h)
    ∙ sym (near-neg (pos (suc a) *ℤ pos k) d)
    ∙ sym (ap (λ z. near_div z d) (negative a k))

pub near_scaled : (z : ℤ) (d : ℕ) → near_div (z *ℤ pos (2 ^ 40)) (2 ^ 20 * d) ≡ near_div (z *ℤ pos (2 ^ 20)) d
near_scaled z d = scaled_by z d (2 ^ 20) (omega arith)

pub scaled_bound : (n k d : ℕ) → n * 2 ^ 20 ≤ k * d → n * 2 ^ 40 ≤ k * (2 ^ 20 * d)
scaled_bound n k d h = omega arith
