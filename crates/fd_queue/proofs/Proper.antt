-- Magnitudes and values stand to edges as numbers do.
use Rattle.std.proofs.Common.{◌≡◌, ℕ, ◌*◌, ◌≤◌, ℤ, pos, negsuc, ◌*ℤ◌, ◌≤ℤ◌, true, false, refl, arith}
use Rattle.std.specs.Prelude.{int_lt, nat_lt}
use Rattle.std.proofs.Math.Nat.{mul-le-mul_right, mul-le-mul}
use Rattle.std.proofs.lemmas.Bool.Decides.{Decides-ltb, nat_tests}
use Rattle.std.proofs.lemmas.Int.{ints}
use Rattle.fd_arith.specs.fd_exact.Order.{scale}
use Rattle.fd_queue.specs.Quantities.{magnitude, value, root_below, root_above}
use Rattle.fd_queue.specs.Quantities.{IsProper}
use Rattle.fd_queue.proofs.Quantities.{test_true, true_test}

more_square : (j k d : ℕ) → j ≤ k → j * j * d ≤ k * k * d
more_square j k d h = mul-le-mul_right d (mul-le-mul h h)

root_up : (n d : ℕ) (j k : ℤ) → j ≤ℤ k → root_below n d j ≡ true → root_below n d k ≡ true
root_up n d (pos j) (pos k) h t = let le : j ≤ k = omega (arith, ints) in
    (Decides-ltb n (k * k * d)).1 (omega (arith, more_square j k d le, (Decides-ltb n (j * j * d)).0 t))
root_up n d (pos j) (negsuc k) h t = absurd (omega (arith, ints))
root_up n d (negsuc j) k h t = absurd (cc)

root_down : (n d : ℕ) (j k : ℤ) → j ≤ℤ k → root_above n d k ≡ true → root_above n d j ≡ true
root_down n d (pos j) (pos k) h t = let le : j ≤ k = omega (arith, ints) in
    (Decides-ltb (j * j * d) n).1 (omega (arith, more_square j k d le, (Decides-ltb (k * k * d) n).0 t))
root_down n d (pos j) (negsuc k) h t = absurd (omega (arith, ints))
root_down n d (negsuc j) k h t = refl

not_both : (a b : ℕ) → nat_lt a b ≡ true → nat_lt b a ≡ false
not_both a b h = grind (arith, nat_tests)

root_apart : (n d : ℕ) (k : ℤ) → root_below n d k ≡ true → root_above n d k ≡ false
root_apart n d (pos k) t = not_both n (k * k * d) t
root_apart n d (negsuc k) t = absurd (cc)

below_scaled : (n j k : ℤ) → j ≤ℤ k → int_lt n j ≡ true → int_lt n k ≡ true
below_scaled n j k h t = let less = true_test n j t in test_true n k (omega (arith, ints))

above_scaled : (n j k : ℤ) → j ≤ℤ k → int_lt k n ≡ true → int_lt j n ≡ true
above_scaled n j k h t = let less = true_test k n t in test_true j n (omega (arith, ints))

ints_apart : (a b : ℤ) → int_lt a b ≡ true → int_lt b a ≡ false
ints_apart a b h = grind (arith, ints)

pub proper_both : ((n d : ℕ) → IsProper (magnitude n d)) × ((n : ℤ) (d : ℕ) → IsProper (value n d))
proper_both = (
  λ n d. record { below_up = root_up n d; above_down = root_down n d; apart = root_apart n d },
  λ n d. record {
    below_up = λ j k h t. below_scaled n (j *ℤ pos d) (k *ℤ pos d) (scale j k d h) t;
    above_down = λ j k h t. above_scaled n (j *ℤ pos d) (k *ℤ pos d) (scale j k d h) t;
    apart = λ k t. ints_apart n (k *ℤ pos d) t;
  },
)
