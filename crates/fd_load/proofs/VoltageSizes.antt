-- The sizes of a load's limits and of the parts of its voltage, as the code has them.
use Rattle.std.proofs.Common.{◌≡◌, ◌∙◌, ℕ, ◌+◌, ◌*◌, ◌<◌, ◌≤◌, ◌^◌, ℤ, pos, ◌≤ℤ◌, ◌<ℤ◌, ◌-ℤ◌, nat_abs, nat_le, ◌&&◌, leb, IsTrue, Fits, FitsSigned, to_z, of_z, arith, ap, subst}
use Rattle.std.specs.Int.{w128}
use Rattle.std.proofs.Math.Nat.{mul-le-mul}
use Rattle.std.proofs.lemmas.Bool.Decides.{nat_tests}
use Rattle.std.proofs.lemmas.Int.{ints}
use Rattle.fd_system.specs.fd_exact.Order.{≤ℤ_trans}
use Rattle.fd_system.specs.fd_exact.ReadBack.{read_back, opposite_fits}
use Rattle.fd_load.proofs.Bounds.{inside_square}
use Rattle.fd_load.specs.Current.{AreVoltages, IsLoadPhase, divisor, largest, power_sum}
use Rattle.fd_system.specs.Loads.{clamp, square_of}
use Rattle.fd_system.specs.declared.loads.LoadPhase.{LoadPhase}

-- a part is read back as it is, and keeps its size
pub part_held : (p : ℤ) → nat_abs p ≤ 2 ^ 41 → to_z w128 (of_z w128 p) ≡ p
part_held p h = read_back p (2 ^ 41) h (omega arith)

pub part_kept : (p : ℤ) → nat_abs p ≤ 2 ^ 41 → nat_abs (to_z w128 (of_z w128 p)) ≤ 2 ^ 41
part_kept p h = rw (part_held p h) h

-- the square of the parts that are read back is that of the parts
pub square_held : (p q : ℤ) (n : ℕ) → nat_abs p ≤ 2 ^ 41 → nat_abs q ≤ 2 ^ 41
    → n ≡ square_of (to_z w128 (of_z w128 p)) (to_z w128 (of_z w128 q)) → n ≡ square_of p q
square_held p q n h k e = e ∙ (λ i. square_of (part_held p h i) (part_held q k i))

-- a limit is from 2 x 10^6 to 2 x 10^12
limit_most : (l k : ℤ) → pos (2 * 10 ^ 6) ≤ℤ l → l ≤ℤ k → k ≤ℤ pos (2 * 10 ^ 12) → nat_abs l ≤ 2 * 10 ^ 12
limit_most l k f g h = omega (arith, ints, f, g, h)

limit_least : (l : ℤ) → pos (2 * 10 ^ 6) ≤ℤ l → 2 * 10 ^ 6 ≤ nat_abs l
limit_least l f = omega (arith, ints, f)

ordered : (l k : ℤ) → pos (2 * 10 ^ 6) ≤ℤ l → l ≤ℤ k → nat_abs l ≤ nat_abs k
ordered l k f g = omega (arith, ints, f, g)

below : (l : ℤ) → l ≤ℤ l
below l = omega (arith, ints)

-- the sizes of the limits of a load, as the code has them
module _ (w : LoadPhase) (h : IsLoadPhase w) where
  low_below : w.vlo ≤ℤ w.vhi
  low_below = ≤ℤ_trans h.low_most h.high_least

  high_above : pos (2 * 10 ^ 6) ≤ℤ w.vhi
  high_above = ≤ℤ_trans h.low_least low_below

  low_size : nat_abs w.vlo ≤ 2 * 10 ^ 12
  low_size = limit_most w.vlo w.vhi h.low_least low_below h.high_most

  high_size : nat_abs w.vhi ≤ 2 * 10 ^ 12
  high_size = limit_most w.vhi w.vhi high_above (below w.vhi) h.high_most

  pub low_is : (n : ℕ) → n ≡ nat_abs (to_z w128 (of_z w128 w.vlo)) → n ≡ nat_abs w.vlo
  low_is n e = e ∙ ap nat_abs (read_back w.vlo (2 * 10 ^ 12) low_size (omega arith))

  pub high_is : (n : ℕ) → n ≡ nat_abs (to_z w128 (of_z w128 w.vhi)) → n ≡ nat_abs w.vhi
  high_is n e = e ∙ ap nat_abs (read_back w.vhi (2 * 10 ^ 12) high_size (omega arith))

  pub low_most : (n : ℕ) → n ≡ nat_abs (to_z w128 (of_z w128 w.vlo)) → n ≤ 2 * 10 ^ 12
  low_most n e = rw (low_is n e) low_size

  pub high_most : (n : ℕ) → n ≡ nat_abs (to_z w128 (of_z w128 w.vhi)) → n ≤ 2 * 10 ^ 12
  high_most n e = rw (high_is n e) high_size

  pub low_least : (n : ℕ) → n ≡ nat_abs (to_z w128 (of_z w128 w.vlo)) → 2 * 10 ^ 6 ≤ n
  low_least n e = rw (low_is n e) (limit_least w.vlo h.low_least)

  pub in_order : (n m : ℕ) → n ≡ nat_abs (to_z w128 (of_z w128 w.vlo))
      → m ≡ nat_abs (to_z w128 (of_z w128 w.vhi)) → n ≤ m
  in_order n m e f = rw (low_is n e, high_is m f) (ordered w.vlo w.vhi h.low_least low_below)

-- the square of a limit
pub limit_square : (n : ℕ) → n ≤ 2 * 10 ^ 12 → n * n ≤ 4 * 10 ^ 24
limit_square n h = omega (arith, mul-le-mul h h)

pub limit_square_fits : (n : ℕ) → n ≤ 2 * 10 ^ 12 → Fits w128 (n * n)
limit_square_fits n h = omega (arith, limit_square n h)

pub squares_in_order : (n m : ℕ) → n ≤ m → n * n ≤ m * m
squares_in_order n m h = mul-le-mul h h

-- what lies between the squares of the limits
pub square_least : (n m r : ℕ) → n ≡ m → n * n ≤ r → m * m ≤ r
square_least n m r e h = subst (λ k. k * k ≤ r) e h

pub square_positive : (n r : ℕ) → 2 * 10 ^ 6 ≤ n → n * n ≤ r → 0 < r
square_positive n r h k = omega (arith, mul-le-mul h h, k)

pub square_most : (m r : ℕ) → m ≤ 2 * 10 ^ 12 → r ≤ m * m → r ≤ 4 * 10 ^ 24
square_most m r h k = omega (arith, limit_square m h, k)

-- two tests of a square, the second of which is made where the first holds
inside_tested : (l s h : ℕ) → l ≤ s → leb s h ≡ (nat_le l s && nat_le s h)
inside_tested l s h k = grind (arith, nat_tests)

below_tested : (l s h : ℕ) → s < l → leb l s ≡ (nat_le l s && nat_le s h)
below_tested l s h k = grind (arith, nat_tests)

test_fails : (l s : ℕ) → s < l → IsTrue (leb l s) → ⊥
test_fails l s k t = grind (arith, nat_tests, t)

test_holds : (s h : ℕ) → IsTrue (leb s h) → s ≤ h
test_holds s h t = grind (arith, nat_tests, t)

-- the same of the sizes n and m of the limits l and k, and the square s of the voltage
module _ (p q : ℤ) (l k n m s : ℕ) (e : n ≡ l) (f : m ≡ k) (g : s ≡ square_of p q) where
  pub within_limits : n * n ≤ s → leb s (m * m) ≡ (nat_le (l * l) (square_of p q) && nat_le (square_of p q) (k * k))
  within_limits h = inside_tested (n * n) s (m * m) h ∙ (λ i. nat_le (e i * e i) (g i) && nat_le (g i) (f i * f i))

  pub below_limits : s < n * n → leb (n * n) s ≡ (nat_le (l * l) (square_of p q) && nat_le (square_of p q) (k * k))
  below_limits h = below_tested (n * n) s (m * m) h ∙ (λ i. nat_le (e i * e i) (g i) && nat_le (g i) (f i * f i))

  pub part_inside : IsTrue (leb s (m * m)) → largest p q * largest p q ≤ clamp (square_of p q) (l * l) (k * k)
  part_inside t = inside_square p q (l * l) (k * k) (rw (g, f) at (test_holds s (m * m) t))

pub part_below : (n s : ℕ) {a : Type 0} → s < n * n → IsTrue (leb (n * n) s) → a
part_below n s h t = absurd (test_fails (n * n) s h t)

-- the nominal voltage, as the code has it
nominal_most : (v : ℤ) → pos (5 * 10 ^ 6) ≤ℤ v → v ≤ℤ pos (10 ^ 12) → nat_abs v ≤ 10 ^ 12
nominal_most v f g = omega (arith, ints, f, g)

nominal_positive : (v : ℤ) → pos (5 * 10 ^ 6) ≤ℤ v → pos 0 <ℤ v
nominal_positive v f = omega (arith, ints, f)

nominal_small : (v : ℤ) → v ≤ℤ pos (10 ^ 12) → v ≤ℤ pos (10 ^ 32)
nominal_small v f = omega (arith, ints, f)

module _ (w : LoadPhase) (h : IsLoadPhase w) where
  pub nominal_held : to_z w128 (of_z w128 w.vn) ≡ w.vn
  nominal_held = read_back w.vn (10 ^ 12) (nominal_most w.vn h.nominal_least h.nominal_most) (omega arith)

  pub nominal_above : pos 0 <ℤ to_z w128 (of_z w128 w.vn)
  nominal_above = rw nominal_held (nominal_positive w.vn h.nominal_least)

  pub nominal_below : to_z w128 (of_z w128 w.vn) ≤ℤ pos (10 ^ 32)
  nominal_below = rw nominal_held (nominal_small w.vn h.nominal_most)

-- the parts and the magnitude keep their sizes
pub voltages_kept : (p q m : ℤ) → AreVoltages p q m
    → AreVoltages (to_z w128 (of_z w128 p)) (to_z w128 (of_z w128 q)) (to_z w128 (of_z w128 m))
voltages_kept p q m v =
    record { re = part_kept p v.re; im = part_kept q v.im; magnitude = part_kept m v.magnitude }

-- a positive divisor
module _ (d : ℤ) (n : ℕ) (e : d ≡ pos n) (h : 0 < n) (k : n ≤ 4 * 10 ^ 24) where
  size_most : nat_abs d ≤ 4 * 10 ^ 24
  size_most = rw e k

  divisor_held : to_z w128 (of_z w128 d) ≡ pos n
  divisor_held = read_back d (4 * 10 ^ 24) size_most (omega arith) ∙ e

  divisor_positive : pos 0 <ℤ to_z w128 (of_z w128 d)
  divisor_positive = rw divisor_held (omega (arith, ints, h))

  divisor_small : to_z w128 (of_z w128 d) ≤ℤ pos (10 ^ 32)
  divisor_small = rw divisor_held (omega (arith, ints, k))

-- the divisor of a load at parts that are read back
abbrev divisor_at : LoadPhase → ℤ → ℤ → ℤ → ℕ
divisor_at w p q m = divisor w (to_z w128 (of_z w128 p)) (to_z w128 (of_z w128 q)) (to_z w128 (of_z w128 m))

pub divisor_above : (w : LoadPhase) (p q m d : ℤ) → d ≡ pos (divisor_at w p q m) → 0 < divisor_at w p q m
    → divisor_at w p q m ≤ 4 * 10 ^ 24 → pos 0 <ℤ to_z w128 (of_z w128 d)
divisor_above w p q m d e h k = divisor_positive d (divisor_at w p q m) e h k

pub divisor_below : (w : LoadPhase) (p q m d : ℤ) → d ≡ pos (divisor_at w p q m) → 0 < divisor_at w p q m
    → divisor_at w p q m ≤ 4 * 10 ^ 24 → to_z w128 (of_z w128 d) ≤ℤ pos (10 ^ 32)
divisor_below w p q m d e h k = divisor_small d (divisor_at w p q m) e h k

-- what is at most 10^9 x 10^11 x 2^41 in size keeps its size
pub numerator_kept : (n : ℤ) (b : ℕ) → nat_abs n ≤ 10 ^ 9 * (10 ^ 11 * 2 ^ 41) → nat_abs n ≤ b
    → nat_abs (to_z w128 (of_z w128 n)) ≤ b
numerator_kept n b h k = rw (read_back n (10 ^ 9 * (10 ^ 11 * 2 ^ 41)) h (omega arith)) k

-- a slope keeps its size
pub slope_kept : (n : ℤ) → nat_abs n ≤ 2 ^ 52 → nat_abs (to_z w128 (of_z w128 n)) ≤ 2 ^ 52
slope_kept n h = rw (read_back n (2 ^ 52) h (omega arith)) h

pub opposite_kept : (n : ℤ) → nat_abs n ≤ 2 ^ 52 → FitsSigned w128 (pos 0 -ℤ to_z w128 (of_z w128 n))
opposite_kept n h = opposite_fits (to_z w128 (of_z w128 n)) (2 ^ 52) (slope_kept n h) (omega arith)

-- each power is at most the sum of both sizes
powers_small : (p q : ℤ) → nat_abs p + nat_abs q ≤ 10 ^ 11 → (nat_abs p ≤ 10 ^ 11) × (nat_abs q ≤ 10 ^ 11)
powers_small p q h = (omega (arith, h), omega (arith, h))

power_within : (a b : ℕ) → (a ≤ a + b) × (b ≤ a + b)
power_within a b = (omega arith, omega arith)

pub first_power_kept : (w : LoadPhase) → IsLoadPhase w → nat_abs (to_z w128 (of_z w128 w.p)) ≤ power_sum w
first_power_kept w h =
    let s = powers_small w.p w.q h.power in
    let t = power_within (nat_abs w.p) (nat_abs w.q) in
    rw (read_back w.p (10 ^ 11) s.0 (omega arith)) t.0

pub second_power_kept : (w : LoadPhase) → IsLoadPhase w → nat_abs (to_z w128 (of_z w128 w.q)) ≤ power_sum w
second_power_kept w h =
    let s = powers_small w.p w.q h.power in
    let t = power_within (nat_abs w.p) (nat_abs w.q) in
    rw (read_back w.q (10 ^ 11) s.1 (omega arith)) t.1
