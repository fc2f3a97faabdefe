-- The sizes of a voltage's parts and of its limits, as the code has them, and how far the square moves at most.
use Rattle.std.proofs.Common.{◌≡◌, ◌∙◌, ℕ, ◌+◌, ◌*◌, ◌-◌, ◌<◌, ◌≤◌, ◌^◌, max, ℤ, pos, ◌≤ℤ◌, nat_abs, Fits, to_z, of_z, arith, ap}
use Rattle.std.specs.Int.{w128}
use Rattle.std.proofs.Math.Nat.{mul-le-mul}
use Rattle.std.proofs.lemmas.Int.{ints}
use Rattle.fd_load.specs.Current.{IsLoadPhase, clamped_square}
use Rattle.fd_load.proofs.CallerLemmas.{nominal_held, part_held, part_kept}
use Rattle.fd_slope.specs.Radii.{square_moves}
use Rattle.fd_load.specs.fd_system.declared.loads.LoadPhase.{LoadPhase}

-- the clamped square of the parts that are read back is that of the parts
pub square_held : (w : LoadPhase) (p q : ℤ) (d : ℕ) → nat_abs p ≤ 2 ^ 41 → nat_abs q ≤ 2 ^ 41
    → d ≡ clamped_square w (to_z w128 (of_z w128 p)) (to_z w128 (of_z w128 q)) → d ≡ clamped_square w p q
square_held w p q d h k e = e ∙ (λ i. clamped_square w (part_held p h i) (part_held q k i))

-- the square of a part that is inside, as the code has it
pub inside_held : (n m d e : ℕ) → n ≡ m → d ≡ e → m * m ≤ e → n * n ≤ d
inside_held n m d e f g h = rw (f, g) h

-- the size of a part of at most 2^41
module _ (p : ℤ) (n : ℕ) (h : nat_abs p ≤ 2 ^ 41) (e : n ≡ nat_abs (to_z w128 (of_z w128 p))) where
  pub part_is : n ≡ nat_abs p
  part_is = e ∙ ap nat_abs (part_held p h)

  pub part_most : n ≤ 2 ^ 41
  part_most = rw part_is h

-- the square of a part
pub part_square_most : (n : ℕ) → n ≤ 2 ^ 41 → n * n ≤ 2 ^ 100
part_square_most n h = omega (arith, mul-le-mul h h)

pub part_square_fits : (n : ℕ) → n ≤ 2 ^ 41 → Fits w128 (n * n)
part_square_fits n h = omega (arith, part_square_most n h)

-- a number that is at most its divisor is small beside it
pub inside_small : (n d : ℕ) → n ≤ d → n * 2 ^ 40 ≤ 2 ^ 99 * d
inside_small n d h = omega (arith, h)

pub inside_most : (n d : ℕ) → n ≤ d → n * 2 ^ 40 ≤ 2 ^ 40 * d
inside_most n d h = omega (arith, h)

-- a part times a width, over a least square
module _ (n m : ℕ) (h : n ≤ 2 ^ 41) (k : m ≤ 3 * 2 ^ 41) where
  across_least : n * m ≤ 3 * 2 ^ 82
  across_least = omega (arith, mul-le-mul h k)

  pub across_fits : Fits w128 (n * m)
  across_fits = omega (arith, across_least)

  pub across_most : n * m ≤ 2 ^ 100
  across_most = omega (arith, across_least)

  pub across_small : (d : ℕ) → 4 * 10 ^ 12 ≤ d → n * m * 2 ^ 40 ≤ 2 ^ 99 * d
  across_small d l = omega (arith, across_least, l)

  pub across_within : (d : ℕ) → 4 * 10 ^ 12 ≤ d → n * m * 2 ^ 40 ≤ 2 ^ 82 * d
  across_within d l = omega (arith, across_least, l)

-- a least square is a divisor
pub least_positive : (d : ℕ) → 4 * 10 ^ 12 ≤ d → 0 < d
least_positive d h = omega (arith, h)

-- the moves of the square over a least square
module _ (n d : ℕ) (h : n ≤ 6 * 2 ^ 82) (k : 4 * 10 ^ 12 ≤ d) where
  pub moved_most : n ≤ 2 ^ 100
  moved_most = omega (arith, h)

  pub moved_small : n * 2 ^ 40 ≤ 2 ^ 99 * d
  moved_small = omega (arith, h, k)

  pub moved_within : n * 2 ^ 40 ≤ 2 ^ 84 * d
  moved_within = omega (arith, h, k)

-- the powers' sizes over a divisor of at least the square s of the lower limit
module _ (n s d : ℕ) (h : n ≤ 2 ^ 12 * s) (k : s ≤ d) where
  pub draw_small : n * 2 ^ 40 ≤ 2 ^ 99 * d
  draw_small = omega (arith, h, k)

  pub draw_within : n * 2 ^ 40 ≤ 2 ^ 52 * d
  draw_within = omega (arith, h, k)

pub draw_most : (n : ℕ) → n ≤ 10 ^ 20 → n ≤ 2 ^ 100
draw_most n h = omega (arith, h)

-- what one part adds to the moves of the square
module _ (n r : ℕ) (h : n ≤ 2 ^ 41) (k : r ≤ 2 ^ 41) where
  pub double_fits : Fits w128 (2 * n)
  double_fits = omega (arith, h)

  width_most : 2 * n + r ≤ 3 * 2 ^ 41
  width_most = omega (arith, h, k)

  pub width_fits : Fits w128 (2 * n + r)
  width_fits = omega (arith, width_most)

  pub move_most : (2 * n + r) * r ≤ 3 * 2 ^ 82
  move_most = omega (arith, mul-le-mul width_most k)

  pub move_fits : Fits w128 ((2 * n + r) * r)
  move_fits = omega (arith, move_most)

-- what both add
module _ (n m r s : ℕ) (h : n ≤ 2 ^ 41) (k : m ≤ 2 ^ 41) (i : r ≤ 2 ^ 41) (j : s ≤ 2 ^ 41) where
  pub moves_most : (2 * n + r) * r + (2 * m + s) * s ≤ 6 * 2 ^ 82
  moves_most = omega (arith, move_most n r h i, move_most m s k j)

  pub moves_fit : Fits w128 ((2 * n + r) * r + (2 * m + s) * s)
  moves_fit = omega (arith, moves_most)

pub moves_are : (p q : ℤ) (n m r s : ℕ) → n ≡ nat_abs p → m ≡ nat_abs q
    → (2 * n + r) * r + (2 * m + s) * s ≡ square_moves p q r s
moves_are p q n m r s e f = λ i. (2 * e i + r) * r + (2 * f i + s) * s

-- the product of two sizes of a limit
pub square_most : (n m : ℕ) → n ≤ 2 * 10 ^ 12 → m ≤ 2 * 10 ^ 12 → n * m ≤ 4 * 10 ^ 24
square_most n m h k = omega (arith, mul-le-mul h k)

pub square_fits : (n m : ℕ) → n ≤ 2 * 10 ^ 12 → m ≤ 2 * 10 ^ 12 → Fits w128 (n * m)
square_fits n m h k = omega (arith, square_most n m h k)

pub low_square_least : (n m : ℕ) → 2 * 10 ^ 6 ≤ n → 2 * 10 ^ 6 ≤ m → 4 * 10 ^ 12 ≤ n * m
low_square_least n m h k = omega (arith, mul-le-mul h k)

-- the greater of a square of at least 4 x 10^12 and another number
pub greater_least : (r s x : ℕ) → r ≡ max s x → 4 * 10 ^ 12 ≤ s → 4 * 10 ^ 12 ≤ r
greater_least r s x e h = omega (arith, e, h)

pub greater_most : (r s x y z : ℕ) → r ≡ max s x → x ≡ y - z → s ≤ 4 * 10 ^ 24 → y ≤ 4 * 10 ^ 24 → r ≤ 4 * 10 ^ 24
greater_most r s x y z e f h k = omega (arith, e, f, h, k)

-- the size of a load's nominal voltage
module _ (w : LoadPhase) (n : ℕ) (h : IsLoadPhase w) (e : n ≡ nat_abs (to_z w128 (of_z w128 w.vn))) where
  voltage_most : (v : ℤ) → pos (5 * 10 ^ 6) ≤ℤ v → v ≤ℤ pos (10 ^ 12) → nat_abs v ≤ 10 ^ 12
  voltage_most v f g = omega (arith, ints, f, g)

  voltage_above : (v : ℤ) → pos (5 * 10 ^ 6) ≤ℤ v → 0 < nat_abs v
  voltage_above v f = omega (arith, ints, f)

  size_most : nat_abs w.vn ≤ 10 ^ 12
  size_most = voltage_most w.vn h.nominal_least h.nominal_most

  pub nominal_is : n ≡ nat_abs w.vn
  nominal_is = e ∙ ap nat_abs (nominal_held w h)

  pub nominal_positive : 0 < n
  nominal_positive = rw nominal_is (voltage_above w.vn h.nominal_least)

  small_size : n ≤ 10 ^ 12
  small_size = rw nominal_is size_most

  pub nominal_most : n ≤ 4 * 10 ^ 24
  nominal_most = omega (arith, small_size)

-- a half-width over a positive number
pub width_number : (r : ℕ) → r ≤ 2 ^ 41 → r ≤ 2 ^ 100
width_number r h = omega (arith, h)

pub width_small : (r n : ℕ) → r ≤ 2 ^ 41 → 0 < n → r * 2 ^ 40 ≤ 2 ^ 99 * n
width_small r n h k = omega (arith, h, k)

pub width_within : (r n : ℕ) → r ≤ 2 ^ 41 → 0 < n → r * 2 ^ 40 ≤ 2 ^ 100 * n
width_within r n h k = omega (arith, h, k)

-- the limits of a load are read back with their sizes
limit_size : (l k m : ℤ) → pos (2 * 10 ^ 6) ≤ℤ l → l ≤ℤ k → k ≤ℤ m → m ≤ℤ pos (2 * 10 ^ 12)
    → (nat_abs l ≤ 2 ^ 41) × (nat_abs m ≤ 2 ^ 41)
limit_size l k m f g h i = (omega (arith, ints, f, g, h, i), omega (arith, ints, f, g, h, i))

pub low_kept : (w : LoadPhase) → IsLoadPhase w → nat_abs (to_z w128 (of_z w128 w.vlo)) ≤ 2 ^ 41
low_kept w h =
    let s = limit_size w.vlo w.vn w.vhi h.low_least h.low_most h.high_least h.high_most in
    part_kept w.vlo s.0

pub high_kept : (w : LoadPhase) → IsLoadPhase w → nat_abs (to_z w128 (of_z w128 w.vhi)) ≤ 2 ^ 41
high_kept w h =
    let s = limit_size w.vlo w.vn w.vhi h.low_least h.low_most h.high_least h.high_most in
    part_kept w.vhi s.1
