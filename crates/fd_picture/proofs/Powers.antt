-- Powers of ten and what stays below them.
use Rattle.std.proofs.Common.{◌≡◌, ℕ, zero, suc, ◌+◌, ◌-◌, ◌*◌, ◌^◌, ◌≤◌, arith, subst}
use Rattle.std.proofs.Math.Nat.{pow-suc}

power_by : (d k : ℕ) → 10 ^ k ≤ 10 ^ (d + k)
power_by zero k =
    let e : k ≡ 0 + k = omega arith in
    let same : 10 ^ k ≤ 10 ^ k = omega arith in
    subst (λ (m : ℕ). 10 ^ k ≤ 10 ^ m) e same
power_by (suc d) k =
    let e : suc (d + k) ≡ suc d + k = omega arith in
    let more : 10 ^ k ≤ 10 ^ suc (d + k) = omega (arith, pow-suc 10 (d + k), power_by d k) in
    subst (λ (m : ℕ). 10 ^ k ≤ 10 ^ m) e more

pub power_most : (k n : ℕ) → k ≤ n → 10 ^ k ≤ 10 ^ n
power_most k n h =
    let e : (n - k) + k ≡ n = omega (arith, h) in
    subst (λ (m : ℕ). 10 ^ k ≤ 10 ^ m) e (power_by (n - k) k)

-- with one digit more a number stays below its power: a byte is at most 207 above the digit 0
pub grows : (v d i : ℕ) → v + 23 ≤ 23 * 10 ^ i → d ≤ 207 → v * 10 + d + 23 ≤ 23 * 10 ^ (i + 1)
grows v d i h below =
    let e : suc i ≡ i + 1 = omega arith in
    let more : v * 10 + d + 23 ≤ 23 * 10 ^ suc i = omega (arith, pow-suc 10 i, h, below) in
    subst (λ (m : ℕ). v * 10 + d + 23 ≤ 23 * 10 ^ m) e more
