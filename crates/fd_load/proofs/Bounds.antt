-- The sizes of slopes: of admittances, of what is subtracted, and of the slopes of the magnitude.
use Rattle.std.proofs.Common.{◌≡◌, ℕ, ◌+◌, ◌*◌, ◌≤◌, ◌^◌, ℤ, pos, ◌*ℤ◌, ◌≤ℤ◌, nat_abs, max, Bool, true, false, ◌⊎◌, ⊎_elim, cond, refl, arith}
use Rattle.std.proofs.lemmas.Int.{ints, unsigned_abs-mul}
use Rattle.fd_system.specs.Loads.{clamp, square_of}
use Rattle.fd_load.specs.Current.{largest}
use Rattle.std.proofs.Math.Nat.{mul-le-mul, mul-le-mul_right}

-- the power z over d, where the powers are at most g and the lower limit allows 2^12 siemens
pub admittance_most : (z : ℤ) (g l d : ℕ) → nat_abs z ≤ g → g * 10 ^ 9 ≤ 2 ^ 12 * l → l ≤ d
    → nat_abs (pos (10 ^ 9) *ℤ z) * 2 ^ 40 ≤ 2 ^ 52 * d
admittance_most z g l d h k m = omega (arith, unsigned_abs-mul (pos (10 ^ 9)) z)

pub nominal_most : (v : ℤ) (vn : ℕ) → nat_abs v ≤ 2 ^ 41 → 5 * 10 ^ 6 ≤ vn → nat_abs (pos 2 *ℤ v) * 2 ^ 40 ≤ 2 ^ 60 * vn
nominal_most v vn h k = omega (arith, unsigned_abs-mul (pos 2) v)

-- the current n / d at voltages of size a, in 2^-20
pub current_most : (n g a l d : ℕ) → n ≤ 10 ^ 9 * (g * a) → g * 10 ^ 9 ≤ 2 ^ 12 * l → l ≤ d
    → n * 2 ^ 20 ≤ 2 ^ 32 * a * d
current_most n g a l d h k m =
    let f : g * 10 ^ 9 ≤ 2 ^ 12 * d = omega arith in
    let e = mul-le-mul_right a f in
    omega arith

pub current_small : (n a d : ℕ) → n ≤ 2 ^ 32 * a * d → a ≤ 2 ^ 41 → n ≤ 2 ^ 100 * d
current_small n a d h k =
    let f : 2 ^ 32 * a ≤ 2 ^ 100 = omega arith in
    let e = mul-le-mul_right d f in
    omega arith

-- times a part of the voltage
pub product_most : (v i a c : ℕ) → v ≤ a → i ≤ 2 ^ 32 * a → a * a ≤ c → v * i ≤ 2 ^ 32 * c
product_most v i a c h k m =
    let e = mul-le-mul h k in
    omega arith

pub part_most : (v i : ℤ) (c : ℕ) → nat_abs v * nat_abs i ≤ 2 ^ 32 * c → nat_abs (pos 2 *ℤ v *ℤ i) ≤ 2 ^ 33 * c
part_most v i c h =
    let e = unsigned_abs-mul (pos 2 *ℤ v) i in
    let f = unsigned_abs-mul (pos 2) v in
    let g : nat_abs (pos 2 *ℤ v) * nat_abs i ≡ 2 * nat_abs v * nat_abs i = rw f in
    omega arith

-- the slope of the current in the magnitude
pub magnitude_most : (i lo : ℤ) (k : ℕ) → nat_abs i ≤ 2 ^ 73 → pos (2 * 10 ^ 6) ≤ℤ lo → nat_abs lo ≤ k
    → nat_abs i * 2 ^ 40 ≤ 2 ^ 73 * (2 ^ 20 * k)
magnitude_most i lo k h l m = omega (arith, ints)

-- ---- within the limits

square_at_least : (a b : ℕ) → max a b * max a b ≤ a * a + b * b
square_at_least a b = ⊎_elim
    (λ (le : a ≤ b). let e : max a b ≡ b = omega (arith, le) in rw e (omega arith))
    (λ (ge : b ≤ a). let e : max a b ≡ a = omega (arith, ge) in rw e (omega arith))
    (either a b)
  where
    either : (a b : ℕ) → (a ≤ b) ⊎ (b ≤ a)
    either a b = grind arith

-- the square of the greater part is at most the clamped square, where the square isn't above the upper limit
pub inside_square : (p q : ℤ) (lo hi : ℕ) → square_of p q ≤ hi → largest p q * largest p q ≤ clamp (square_of p q) lo hi
inside_square p q lo hi h = omega (arith, square_at_least (nat_abs p) (nat_abs q))

-- a choice whose test holds
pub taken : (t : Bool) (x y : ℤ) → true ≡ t → x ≡ cond t x y
taken true x y e = refl
taken false x y e = absurd cc
