-- Numbers of a script as the code holds them.
use Rattle.std.proofs.Common.{◌≡◌, ℕ, ◌≤◌, ◌^◌, ℤ, pos, neg_ℤ, ◌≤ℤ◌, nat_abs, FitsSigned, to_z, of_z, arith}
use Rattle.std.specs.Int.{w32, w128}
use Rattle.std.proofs.lemmas.Int.{ints, to_z-of_z}
use Rattle.fd_network.specs.fd_exact.Ranges.{IsBetween}

fits_wide : (low high z : ℤ) → low ≤ℤ z → z ≤ℤ high → neg_ℤ (pos (2 ^ 126)) ≤ℤ low → high ≤ℤ pos (2 ^ 126)
    → FitsSigned w128 z
fits_wide low high z l h p q = omega (arith, ints)

pub back : (low high z : ℤ) → IsBetween low high z → neg_ℤ (pos (2 ^ 126)) ≤ℤ low → high ≤ℤ pos (2 ^ 126)
    → to_z w128 (of_z w128 z) ≡ z
back low high z h p q = to_z-of_z w128 z (fits_wide low high z h.least h.most p q)

fits_narrow : (low high z : ℤ) → low ≤ℤ z → z ≤ℤ high → neg_ℤ (pos (2 ^ 30)) ≤ℤ low → high ≤ℤ pos (2 ^ 30)
    → FitsSigned w32 z
fits_narrow low high z l h p q = omega (arith, ints)

pub back_narrow : (low high z : ℤ) → IsBetween low high z → neg_ℤ (pos (2 ^ 30)) ≤ℤ low → high ≤ℤ pos (2 ^ 30)
    → to_z w32 (of_z w32 z) ≡ z
back_narrow low high z h p q = to_z-of_z w32 z (fits_narrow low high z h.least h.most p q)

-- ---- sizes

pub size_between : (low high : ℕ) (z : ℤ) → IsBetween (pos low) (pos high) z → (low ≤ nat_abs z) × (nat_abs z ≤ high)
size_between low high z h = (omega (arith, ints, h.least), omega (arith, ints, h.least, h.most))

pub size_within : (n : ℕ) (z : ℤ) → IsBetween (neg_ℤ (pos n)) (pos n) z → nat_abs z ≤ n
size_within n z h = omega (arith, ints, h.least, h.most)
