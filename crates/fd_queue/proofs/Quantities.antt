-- Numbers in order are quantities in order.
use Rattle.std.proofs.Common.{◌≡◌, ℕ, ◌*◌, ◌<◌, ◌≤◌, ℤ, pos, negsuc, ◌+ℤ◌, ◌*ℤ◌, ◌≤ℤ◌, ◌<ℤ◌, true, refl, arith}
use Rattle.std.specs.Prelude.{int_lt}
use Rattle.std.proofs.Math.Nat.{mul-lt-mul_of_pos_right, lt_of_mul-lt-mul_right}
use Rattle.std.proofs.lemmas.Bool.Decides.{Decides-ltb}
use Rattle.std.proofs.lemmas.Int.{ints}
use Rattle.fd_arith.specs.fd_exact.Integers.{next-mul, turn}
use Rattle.fd_arith.specs.fd_exact.Order.{lt_of_scale, scale}
use Rattle.fd_queue.specs.Quantities.{AtMost, magnitude, value, root_below, root_above}

below_square : (n d m e s : ℕ) → 0 < d → 0 < e → n * e ≤ m * d → m < s * e → n < s * d
below_square n d m e s p q h k =
    let more : m * d < s * e * d = mul-lt-mul_of_pos_right k p in
    lt_of_mul-lt-mul_right e (omega arith)

above_square : (n d m e s : ℕ) → 0 < d → 0 < e → n * e ≤ m * d → s * d < n → s * e < m
above_square n d m e s p q h k =
    let more : s * d * e < n * e = mul-lt-mul_of_pos_right k q in
    lt_of_mul-lt-mul_right d (omega arith)

root_below_kept : (n d m e : ℕ) → 0 < d → 0 < e → n * e ≤ m * d → (k : ℤ) → root_below m e k ≡ true →
    root_below n d k ≡ true
root_below_kept n d m e p q h (pos k) t =
    (Decides-ltb n (k * k * d)).1 (below_square n d m e (k * k) p q h ((Decides-ltb m (k * k * e)).0 t))
root_below_kept n d m e p q h (negsuc k) t = t

root_above_kept : (n d m e : ℕ) → 0 < d → 0 < e → n * e ≤ m * d → (k : ℤ) → root_above n d k ≡ true →
    root_above m e k ≡ true
root_above_kept n d m e p q h (pos k) t =
    (Decides-ltb (k * k * e) m).1 (above_square n d m e (k * k) p q h ((Decides-ltb (k * k * d) n).0 t))
root_above_kept n d m e p q h (negsuc k) t = refl

pub magnitudes_in_order : (n d m e : ℕ) → 0 < d → 0 < e → n * e ≤ m * d → AtMost (magnitude n d) (magnitude m e)
magnitudes_in_order n d m e p q h =
    record { below = root_below_kept n d m e p q h; above = root_above_kept n d m e p q h }

pub test_true : (a b : ℤ) → a <ℤ b → int_lt a b ≡ true
test_true a b h = grind (arith, ints)

pub true_test : (a b : ℤ) → int_lt a b ≡ true → a <ℤ b
true_test a b h = grind (arith, ints)

less_by : (x y z : ℤ) (d : ℕ) → 0 < d → z ≤ℤ y → z ≡ (x +ℤ pos d) → x <ℤ y
less_by x y z d p h e = omega (arith, ints)

through : (x y z w : ℤ) → x ≤ℤ y → y <ℤ z → z ≡ w → x <ℤ w
through x y z w h k e = omega (arith, ints)

beyond : (x y z w : ℤ) → x ≡ y → y <ℤ z → z ≤ℤ w → x <ℤ w
beyond x y z w e h k = omega (arith, ints)

more_scale : (a b : ℤ) (d : ℕ) → 0 < d → a <ℤ b → (a *ℤ pos d) <ℤ (b *ℤ pos d)
more_scale a b d p h =
    let next : (a +ℤ pos 1) ≤ℤ b = omega (arith, ints) in
    let le : ((a +ℤ pos 1) *ℤ pos d) ≤ℤ (b *ℤ pos d) = scale (a +ℤ pos 1) b d next in
    let sum : ((a +ℤ pos 1) *ℤ pos d) ≡ ((a *ℤ pos d) +ℤ pos d) = next-mul a d in
    less_by (a *ℤ pos d) (b *ℤ pos d) ((a +ℤ pos 1) *ℤ pos d) d p le sum

value_below : (n m : ℤ) (d e : ℕ) → 0 < d → (n *ℤ pos e) ≤ℤ (m *ℤ pos d) → (k : ℤ) → m <ℤ (k *ℤ pos e) →
    n <ℤ (k *ℤ pos d)
value_below n m d e p h k less = lt_of_scale n (k *ℤ pos d) e
    (through (n *ℤ pos e) (m *ℤ pos d) ((k *ℤ pos e) *ℤ pos d) ((k *ℤ pos d) *ℤ pos e) h
    (more_scale m (k *ℤ pos e) d p less) (turn k e d))

value_above : (n m : ℤ) (d e : ℕ) → 0 < e → (n *ℤ pos e) ≤ℤ (m *ℤ pos d) → (k : ℤ) → (k *ℤ pos d) <ℤ n →
    (k *ℤ pos e) <ℤ m
value_above n m d e p h k less = lt_of_scale (k *ℤ pos e) m d
    (beyond ((k *ℤ pos e) *ℤ pos d) ((k *ℤ pos d) *ℤ pos e) (n *ℤ pos e) (m *ℤ pos d) (turn k e d)
    (more_scale (k *ℤ pos d) n e p less) h)

pub values_in_order : (n m : ℤ) (d e : ℕ) → 0 < d → 0 < e → (n *ℤ pos e) ≤ℤ (m *ℤ pos d) →
    AtMost (value n d) (value m e)
values_in_order n m d e p q h = record {
  below = λ k t. test_true n (k *ℤ pos d) (value_below n m d e p h k (true_test m (k *ℤ pos e) t));
  above = λ k t. test_true (k *ℤ pos e) m (value_above n m d e q h k (true_test (k *ℤ pos d) n t));
}
