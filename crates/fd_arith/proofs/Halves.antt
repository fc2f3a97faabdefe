-- A quotient over a power of two to the nearest, as a number with a half added, shifted to the right.
use Rattle.std.proofs.Common.{◌≡◌, ◌∙◌, ℕ, suc, ◌+◌, ◌-◌, ◌*◌, ◌/◌, ◌<◌, ◌≤◌, ◌^◌, ℤ, pos, negsuc, neg_ℤ, ◌+ℤ◌, ◌-ℤ◌, ◌≤ℤ◌, ◌<ℤ◌, nat_abs, ap, sym, arith, refl, FitsSigned}
use Rattle.std.specs.Int.{w128, int_shr}
use Rattle.std.specs.Int.Signed.{mag_shr}
use Rattle.std.proofs.lemmas.Nat.{pow_pos}
use Rattle.std.proofs.lemmas.Int.{ints}
use Rattle.std.proofs.Math.Nat.{mul-div-mul_left, pow-succ', lt_of_le_of_lt}
use Rattle.fd_exact.specs.Rounding.{floor_div, near_div}
use Rattle.fd_exact.specs.Quotients.{floor_is}
use Rattle.fd_exact.specs.Integers.{neg-mul, next-mul}

-- what is added to z so that z / 2 h rounded down is z / 2 h to the nearest
pub record IsHalf (z : ℤ) (h : ℕ) (added : ℤ) : Type 0 where
  pub below : z <ℤ pos 0 → added ≡ pos h -ℤ pos 1
  pub else : pos 0 ≤ℤ z → added ≡ pos h

doubled : (a h : ℕ) → (2 * a + 2 * h) / (2 * (2 * h)) ≡ (a + h) / (2 * h)
doubled a h = ap (λ n. n / (2 * (2 * h))) (omega arith) ∙ mul-div-mul_left (a + h) (2 * h) (omega arith)

low : (m h : ℕ) → 0 < h → (m + h) / (2 * h) * (2 * h) ≤ m + h
low m h p = omega arith

high : (m h : ℕ) → 0 < h → m + h < ((m + h) / (2 * h) + 1) * (2 * h)
high m h p = omega arith

negative : (m h : ℕ) → 0 < h
    → floor_div (neg_ℤ (pos m) +ℤ (pos h -ℤ pos 1)) (2 * h) ≡ neg_ℤ (pos ((m + h) / (2 * h)))
negative m h p =
    let k = (m + h) / (2 * h) in
    floor_is (neg_ℤ (pos m) +ℤ (pos h -ℤ pos 1)) (neg_ℤ (pos k)) (2 * h) (omega arith)
    (rw (neg-mul (pos k) (pos (2 * h))) (omega (arith, ints, low m h p, high m h p)))
    (rw (next-mul (neg_ℤ (pos k)) (2 * h), neg-mul (pos k) (pos (2 * h))) (omega (arith, ints, low m h p, high m h p)))

pub floor_near : (z added : ℤ) (h : ℕ) → 0 < h → IsHalf z h added → floor_div (z +ℤ added) (2 * h) ≡ near_div z (2 * h)
floor_near (pos a) added h p is =
    rw (is.else (omega (arith, ints))) (ap pos (sym (doubled a h)))
floor_near (negsuc a) added h p is =
    rw (is.below (omega (arith, ints)))
    (negative (suc a) h p ∙ ap (λ q. neg_ℤ (pos q)) (sym (doubled (suc a) h)))

pub near_size : (z : ℤ) (h : ℕ) → nat_abs (near_div z (2 * h)) ≡ (nat_abs z + h) / (2 * h)
near_size (pos a) h = doubled a h
near_size (negsuc a) h = omega (arith, ints, doubled (suc a) h)

shifted : (z : ℤ) (k : ℕ) → int_shr z k ≡ floor_div z (2 ^ k)
shifted (pos a) k = refl
shifted (negsuc a) k = refl

twice : (bits : ℕ) → 0 < bits → 2 ^ bits ≡ 2 * 2 ^ (bits - 1)
twice bits h = let e : bits ≡ suc (bits - 1) = omega arith in ap (λ k. 2 ^ k) e ∙ pow-succ' 2 (bits - 1)

pub near_by_shift : (z added : ℤ) (bits : ℕ) → 0 < bits → IsHalf z (2 ^ (bits - 1)) added
    → int_shr (z +ℤ added) bits ≡ near_div z (2 ^ bits)
near_by_shift z added bits p is =
    shifted (z +ℤ added) bits ∙ rw (twice bits p) (floor_near z added (2 ^ (bits - 1)) (pow_pos (bits - 1)) is)

pub size_by_shift : (z : ℤ) (bits : ℕ) → 0 < bits
    → nat_abs (near_div z (2 ^ bits)) ≡ (nat_abs z + 2 ^ (bits - 1)) / 2 ^ bits
size_by_shift z bits p = rw (twice bits p) (near_size z (2 ^ (bits - 1)))

pub shift_fits : (z : ℤ) (k : ℕ) → FitsSigned w128 z → FitsSigned w128 (int_shr z k)
shift_fits z k h = record { sfits = lt_of_le_of_lt (mag_shr z (2 ^ k)) h.sfits }
