-- Products with coefficients, and whole roots.
use Rattle.std.proofs.Common.{◌≡◌, ◌∙◌, ℕ, zero, suc, ◌+◌, ◌*◌, ◌/◌, ◌%◌, ◌^◌, ◌≤◌, ◌<◌, ℤ, pos, negsuc, neg_ℤ, ◌*ℤ◌, ◌-ℤ◌, ◌<ℤ◌, nat_abs, nat_le, FitsSigned, to_z, of_z, Bool, true, false, if◌then◌else◌, ⊎_elim, ◌⊎◌, refl, sym, ap, arith}
use Rattle.std.proofs.lemmas.Bool.{leb-false, leb-true}
use Rattle.std.proofs.lemmas.Nat.{div-add-mod'}
use Rattle.std.proofs.Math.Nat.{add-mul, mul-le-mul}
use Rattle.std.specs.Int.{w128}
use Rattle.std.proofs.lemmas.Int.{ints, to_z-of_z}
use Rattle.fd_pattern.specs.fd_load.fd_exact.Integers.{mul-neg, neg-mul}
use Rattle.fd_pattern.specs.fd_load.fd_exact.Nearest.{near-neg}
use Rattle.fd_pattern.specs.fd_load.fd_exact.Rounding.{near_div}
use Rattle.fd_rungs.specs.Numbers.{root_of, root_to, times}

-- ---- products

-- a product of three, in another order
reordered : (h d z : ℕ) → h * d * z ≡ h * z * d
reordered h d z = omega (arith, ints)

over : (k m n : ℕ) → n ≡ k * 2 ^ 40 + m → (2 * n + 2 ^ 40) / (2 * 2 ^ 40) ≡ k + (m + 2 ^ 39) / 2 ^ 40
over k m n is = omega (arith, is)

pub size_is : (f z : ℕ) → times (pos f) (pos z) ≡ pos (f / 2 ^ 40 * z + (f % 2 ^ 40 * z + 2 ^ 39) / 2 ^ 40)
unfolding times
size_is f z =
    let whole = ap (λ n. n * z) (sym (div-add-mod' f (2 ^ 40)))
    ∙ add-mul (f / 2 ^ 40 * 2 ^ 40) (f % 2 ^ 40) z
    ∙ ap (λ n. n + f % 2 ^ 40 * z) (reordered (f / 2 ^ 40) (2 ^ 40) z) in
    ap pos (over (f / 2 ^ 40 * z) (f % 2 ^ 40 * z) (f * z) whole)

pub turned_number : (f z : ℤ) → times f (neg_ℤ z) ≡ neg_ℤ (times f z)
unfolding times
turned_number f z = ap (λ p. near_div p (2 ^ 40)) (mul-neg f z) ∙ near-neg (f *ℤ z) (2 ^ 40)

pub turned_coefficient : (f z : ℤ) → times (neg_ℤ f) z ≡ neg_ℤ (times f z)
unfolding times
turned_coefficient f z = ap (λ p. near_div p (2 ^ 40)) (neg-mul f z) ∙ near-neg (f *ℤ z) (2 ^ 40)

-- ---- roots

less_or : (a b : ℕ) → (a ≤ b) ⊎ (b < a)
less_or a b = grind arith

not_past : (k r n : ℕ) → k * k ≤ n → n < (r + 1) * (r + 1) → k ≤ r
not_past k r n low high =
    ⊎_elim (λ le. le) (λ (past : r < k).
    let up : r + 1 ≤ k = omega (arith, past) in
    let square = mul-le-mul up up in
    absurd (omega (arith, low, high, square))) (less_or k r)

not_it : (r most n : ℕ) → r * r ≤ n → n < suc most * suc most → r ≤ suc most → r ≤ most
not_it r most n low past le =
    ⊎_elim (λ h. h) (λ (more : most < r).
    let up : suc most ≤ r = omega (arith, more) in
    let square = mul-le-mul up up in
    absurd (omega (arith, low, past, square))) (less_or r most)

root_to_is : (n most r : ℕ) → r * r ≤ n → n < (r + 1) * (r + 1) → r ≤ most → root_to n most ≡ r
root_to_is n zero r low high le = omega (arith, le)
root_to_is n (suc most) r low high le = by (root_to_is n most r low high) (nat_le (suc most * suc most) n) refl
  where
    by : (r ≤ most → root_to n most ≡ r) → (b : Bool) → nat_le (suc most * suc most) n ≡ b
        → (if b then suc most else root_to n most) ≡ r
    by rest true e =
        let up = not_past (suc most) r n (leb-true (suc most * suc most) n e) high in
        omega (arith, up, le)
    by rest false e = rest (not_it r most n low (leb-false (suc most * suc most) n e) le)

pub root_below : (n r : ℕ) → r * r ≤ n → r ≤ n
root_below n zero low = omega arith
root_below n (suc r) low =
    let one : 1 ≤ suc r = omega arith in
    let square = mul-le-mul one (let same : suc r ≤ suc r = omega arith in same) in
    omega (arith, low, square)

pub root_is : (n r : ℕ) → r * r ≤ n → n < (r + 1) * (r + 1) → root_of n ≡ r
unfolding root_of
root_is n r low high = root_to_is n n r low high (root_below n r low)

-- ---- products with their signs, as numbers of 128 bits

opposite_held : (z : ℤ) → nat_abs z ≤ 2 ^ 126 → to_z w128 (of_z w128 (pos 0 -ℤ to_z w128 (of_z w128 z))) ≡ neg_ℤ z
opposite_held z h =
    let held : to_z w128 (of_z w128 z) ≡ z = to_z-of_z w128 z (fits z h) in
    let turn : (pos 0 -ℤ z) ≡ neg_ℤ z = omega (arith, ints) in
    ap (λ y. to_z w128 (of_z w128 (pos 0 -ℤ y))) held
    ∙ ap (λ y. to_z w128 (of_z w128 y)) turn
    ∙ to_z-of_z w128 (neg_ℤ z) (fits_turned z h)
  where
    fits : (z : ℤ) → nat_abs z ≤ 2 ^ 126 → FitsSigned w128 z
    fits z h = omega (arith, ints, h)

    fits_turned : (z : ℤ) → nat_abs z ≤ 2 ^ 126 → FitsSigned w128 (neg_ℤ z)
    fits_turned z h = omega (arith, ints, h)

size_held : (n : ℕ) → n ≤ 2 ^ 126 → to_z w128 (of_z w128 (pos 0 -ℤ to_z w128 n)) ≡ neg_ℤ (pos n)
size_held n h =
    let held : to_z w128 n ≡ pos n = to_z-of_z w128 (pos n) (fits n h) in
    let turn : (pos 0 -ℤ pos n) ≡ neg_ℤ (pos n) = omega (arith, ints) in
    ap (λ y. to_z w128 (of_z w128 (pos 0 -ℤ y))) held
    ∙ ap (λ y. to_z w128 (of_z w128 y)) turn
    ∙ to_z-of_z w128 (neg_ℤ (pos n)) (fits_turned n h)
  where
    fits : (n : ℕ) → n ≤ 2 ^ 126 → FitsSigned w128 (pos n)
    fits n h = omega (arith, ints, h)

    fits_turned : (n : ℕ) → n ≤ 2 ^ 126 → FitsSigned w128 (neg_ℤ (pos n))
    fits_turned n h = omega (arith, ints, h)

pub negative_number : (f : ℕ) (z : ℤ) (size : ℕ) → z <ℤ pos 0 → times (pos f) (pos (nat_abs z)) ≡ pos size → size ≤ 2 ^ 126
    → to_z w128 (of_z w128 (pos 0 -ℤ to_z w128 size)) ≡ times (pos f) z
negative_number f (negsuc m) size t is small =
    size_held size small ∙ sym (turned_number (pos f) (pos (suc m)) ∙ ap neg_ℤ is)
negative_number f (pos m) size t is small = absurd (omega (arith, ints, t))

pub negative_coefficient : (f z product : ℤ) → f <ℤ pos 0 → product ≡ times (pos (nat_abs f)) z → nat_abs product ≤ 2 ^ 126
    → to_z w128 (of_z w128 (pos 0 -ℤ to_z w128 (of_z w128 product))) ≡ times f z
negative_coefficient (negsuc m) z product t is small =
    opposite_held product small ∙ ap neg_ℤ is ∙ sym (turned_coefficient (pos (suc m)) z)
negative_coefficient (pos m) z product t is small = absurd (omega (arith, ints, t))
