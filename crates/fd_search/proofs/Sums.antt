-- Sums of naturals in two parts.
use Rattle.std.proofs.Common.{◌≡◌, ℕ, ◌+◌, ◌*◌, ◌/◌, ◌%◌, ◌<◌, ◌≤◌, ◌^◌, arith}

pub sum_grown : (h l s m : ℕ) → h * 2 ^ 64 + l ≡ s → (h + m / 2 ^ 64) * 2 ^ 64 + (l + m % 2 ^ 64) ≡ s + m
sum_grown h l s m e = omega (arith, e)

pub high_grown : (h k m : ℕ) → m < 2 ^ 128 → h ≤ k * 2 ^ 64 → h + m / 2 ^ 64 ≤ (k + 1) * 2 ^ 64
high_grown h k m f e = omega (arith, e, f)

pub low_grown : (l k m : ℕ) → l ≤ k * 2 ^ 64 → l + m % 2 ^ 64 ≤ (k + 1) * 2 ^ 64
low_grown l k m e = omega (arith, e)
