-- The last digits of a number are the last of nine.
use Rattle.std.proofs.Common.{◌≡◌, ◌∙◌, ℕ, zero, suc, ◌+◌, ◌-◌, ◌<◌, ◌≤◌, ◌%◌, ◌/◌, ◌^◌, ◌∷◌, take, drop, ap, refl, arith}
use Rattle.std.proofs.Math.Nat.{pow-suc}
use Rattle.fd_decimal.specs.Decimals.{last_digits}

drop_first : (k p n : ℕ) → drop k (last_digits (k + p) n) ≡ last_digits p n
drop_first zero p n = ap (λ m. last_digits m n) (let e : 0 + p ≡ p = omega arith in e)
drop_first (suc k) p n = ap (λ m. drop (suc k) (last_digits m n)) (let e : suc k + p ≡ suc (k + p) = omega arith in e) ∙ drop_first k p n

take_all : (p n : ℕ) → take p (last_digits p n) ≡ last_digits p n
take_all zero n = refl
take_all (suc p) n = ap (λ digits. (48 + n / 10 ^ p % 10) ∷ digits) (take_all p n)

pub last_of_nine : (p n : ℕ) → p ≤ 9 → take (9 - (9 - p)) (drop (9 - p) (last_digits 9 n)) ≡ last_digits p n
last_of_nine p n h =
    let taken : 9 - (9 - p) ≡ p = omega (arith, h) in
    let nine : 9 ≡ (9 - p) + p = omega (arith, h) in
    ap (λ k. take k (drop (9 - p) (last_digits 9 n))) taken
    ∙ ap (λ k. take p (drop (9 - p) (last_digits k n))) nine
    ∙ ap (λ digits. take p digits) (drop_first (9 - p) p n)
    ∙ take_all p n

pub power_positive : (k : ℕ) → 0 < 10 ^ k
power_positive zero = omega arith
power_positive (suc k) = omega (arith, pow-suc 10 k, power_positive k)
