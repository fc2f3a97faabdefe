-- The sizes of the numerators of a current.
use Rattle.std.proofs.Common.{◌≡◌, ℕ, ◌+◌, ◌*◌, ◌≤◌, ℤ, pos, neg_ℤ, ◌+ℤ◌, ◌-ℤ◌, ◌*ℤ◌, nat_abs, arith, ap}
use Rattle.std.proofs.lemmas.Int.{ints, unsigned_abs-mul}
use Rattle.std.proofs.Math.Nat.{mul-le-mul_left}
use Rattle.fd_system.specs.fd_exact.Integers.{abs_add, mul-neg}
use Rattle.fd_load.specs.Current.{largest}

first_most : (a x y : ℤ) → nat_abs (a *ℤ x) ≤ nat_abs a * largest x y
first_most a x y =
    let h : nat_abs x ≤ largest x y = omega arith in
    let k = mul-le-mul_left (nat_abs a) h in
    rw (unsigned_abs-mul a x) k

second_most : (b x y : ℤ) → nat_abs (b *ℤ y) ≤ nat_abs b * largest x y
second_most b x y =
    let h : nat_abs y ≤ largest x y = omega arith in
    let k = mul-le-mul_left (nat_abs b) h in
    rw (unsigned_abs-mul b y) k

-- a x + b y is at most the sum of the sizes of a and b times the greater size of x and y
pub sum_most : (a b x y : ℤ) → nat_abs (a *ℤ x +ℤ b *ℤ y) ≤ (nat_abs a + nat_abs b) * largest x y
sum_most a b x y = omega (arith, abs_add (a *ℤ x) (b *ℤ y), first_most a x y, second_most b x y)

pub times_most : (k : ℕ) (z : ℤ) (n : ℕ) → nat_abs z ≤ n → nat_abs (pos k *ℤ z) ≤ k * n
times_most k z n h =
    let g = mul-le-mul_left k h in
    rw (unsigned_abs-mul (pos k) z) g

-- ---- a difference is a sum with the other sign

without_sign : (a b p q : ℤ) → (a *ℤ q +ℤ b *ℤ (pos 0 -ℤ p)) ≡ (a *ℤ q -ℤ b *ℤ p)
without_sign a b p q =
    let e : (pos 0 -ℤ p) ≡ neg_ℤ p = omega (arith, ints) in
    rw (e, mul-neg b p) (omega (arith, ints))

pub turned : (k : ℕ) (a b p q : ℤ) → (pos k *ℤ (a *ℤ q +ℤ b *ℤ (pos 0 -ℤ p))) ≡ (pos k *ℤ (a *ℤ q -ℤ b *ℤ p))
turned k a b p q = ap (λ z. pos k *ℤ z) (without_sign a b p q)

pub turned_largest : (p q : ℤ) → largest q (pos 0 -ℤ p) ≡ largest p q
turned_largest p q = let e : nat_abs (pos 0 -ℤ p) ≡ nat_abs p = omega (arith, ints) in rw e (omega arith)
