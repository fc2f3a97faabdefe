-- The rows of a load phase of constant current, at any magnitude of the centre.
use Rattle.std.proofs.Common.{◌≡◌, ℕ, suc, ◌+◌, ◌*◌, ◌<◌, ◌≤◌, ◌^◌, ℤ, pos, negsuc, ◌+ℤ◌, ◌-ℤ◌, ◌*ℤ◌, ◌≤ℤ◌, nat_abs, Bool, true, false, cond, ◌&&◌, ◌||◌, nat_le, int_le, arith, ap, sym, refl, inl, inr}
use Rattle.std.specs.Int.RustNames.{unsigned_abs}
use Rattle.std.proofs.Math.Nat.{le_trans, mul-le-mul_left}
use Rattle.std.proofs.lemmas.Bool.{or_cases}
use Rattle.std.proofs.lemmas.Int.{ints}
use Rattle.fd_load.specs.fd_exact.Fractions.{Near, minus}
use Rattle.fd_load.specs.fd_system.declared.loads.LoadPhase.{LoadPhase}
use Rattle.fd_load.specs.fd_system.Loads.{clamp, constant_current, non_negative}
use Rattle.fd_load.specs.Current.{IsLoadPhase, clamped_magnitude}
use Rattle.fd_load.specs.Slopes.{magnitude_is_inside, slope_row}
use Rattle.fd_slope.specs.Radii.{full_draw, magnitude_radius, magnitude_stays_inside, magnitude_stays_outside, radius_row, voltage_radius}
use Rattle.fd_slope.proofs.CurrentRows.{IsNearVoltage, IsRoundedMagnitude, current_by, magnitude_across_of, outside_5, steady_radius_of, without_5}
use Rattle.fd_slope.proofs.Phases.{Row, limits_order, low_positive, near_more, nominal_positive}

-- ---- tests of whole numbers that are natural

same_test : (x y : ℤ) (a b : ℕ) → x ≡ pos a → y ≡ pos b → nat_le a b ≡ int_le x y
same_test x y a b e f = rw (e, f) (grind (arith, ints))

low_is : (w : LoadPhase) → IsLoadPhase w → w.vlo ≡ pos (nat_abs w.vlo)
low_is w h = omega (arith, ints, h.low_least)

high_is : (w : LoadPhase) → IsLoadPhase w → w.vhi ≡ pos (nat_abs w.vhi)
high_is w h = omega (arith, ints, h.low_least, h.low_most, h.high_least)

plus_is : (z : ℤ) (n k : ℕ) → z ≡ pos n → (z +ℤ pos k) ≡ pos (n + k)
plus_is z n k e = omega (arith, ints)

lies_same : (w : LoadPhase) (k : ℕ) → IsLoadPhase w
    → (nat_le (nat_abs w.vlo) k && nat_le k (nat_abs w.vhi)) ≡ magnitude_is_inside w (pos k)
lies_same w k h = (λ i. same_test w.vlo (pos k) (nat_abs w.vlo) k (low_is w h) refl i && same_test (pos k) w.vhi k (nat_abs w.vhi) refl (high_is w h) i)

inside_same : (w : LoadPhase) (k rm : ℕ) → IsLoadPhase w
    → (nat_le (nat_abs w.vlo + rm) k && nat_le (k + rm) (nat_abs w.vhi)) ≡ magnitude_stays_inside w (pos k) rm
inside_same w k rm h = (λ i. same_test (w.vlo +ℤ pos rm) (pos k) (nat_abs w.vlo + rm) k (plus_is w.vlo (nat_abs w.vlo) rm (low_is w h)) refl i
    && same_test (pos k +ℤ pos rm) w.vhi (k + rm) (nat_abs w.vhi) (plus_is (pos k) k rm refl) (high_is w h) i)

outside_same : (w : LoadPhase) (k rm : ℕ) → IsLoadPhase w
    → (nat_le (k + rm) (nat_abs w.vlo) || nat_le (nat_abs w.vhi + rm) k) ≡ magnitude_stays_outside w (pos k) rm
outside_same w k rm h = (λ i. same_test (pos k +ℤ pos rm) w.vlo (k + rm) (nat_abs w.vlo) (plus_is (pos k) k rm refl) (low_is w h) i
    || same_test (w.vhi +ℤ pos rm) (pos k) (nat_abs w.vhi + rm) k (plus_is w.vhi (nat_abs w.vhi) rm (high_is w h)) refl i)

-- ---- a magnitude below 0

at_most_ℤ : (a b : ℤ) → int_le a b ≡ true → a ≤ℤ b
at_most_ℤ a b e = grind (arith, ints)

above_ℤ : (a b : ℤ) → (a ≤ℤ b → ⊥) → int_le a b ≡ false
above_ℤ a b h = grind (arith, ints)

and_first : (s t : Bool) → s ≡ false → (s && t) ≡ false
and_first true t e = absurd cc
and_first false t e = refl

negative_lies : (w : LoadPhase) (k : ℕ) → IsLoadPhase w → magnitude_is_inside w (negsuc k) ≡ false
negative_lies w k h = and_first (int_le w.vlo (negsuc k)) (int_le (negsuc k) w.vhi) (above_ℤ w.vlo (negsuc k) (λ l. omega (arith, ints, h.low_least, l)))

negative_inside : (w : LoadPhase) (k rm : ℕ) → IsLoadPhase w → magnitude_stays_inside w (negsuc k) rm ≡ false
negative_inside w k rm h =
    and_first (int_le (w.vlo +ℤ pos rm) (negsuc k)) (int_le (negsuc k +ℤ pos rm) w.vhi)
    (above_ℤ (w.vlo +ℤ pos rm) (negsuc k) (λ l. omega (arith, ints, h.low_least, l)))

-- a box outside reaches at most the lower limit
negative_outside : (w : LoadPhase) (k rm : ℕ) → IsLoadPhase w → magnitude_stays_outside w (negsuc k) rm ≡ true
    → rm ≤ nat_abs w.vlo + suc k
negative_outside w k rm h e =
    elim (or_cases (int_le (negsuc k +ℤ pos rm) w.vlo) (int_le (w.vhi +ℤ pos rm) (negsuc k)) e) [
      | inl s ↦ let l = at_most_ℤ (negsuc k +ℤ pos rm) w.vlo s in omega (arith, ints, h.low_least, l)
      | inr s ↦ let l = at_most_ℤ (w.vhi +ℤ pos rm) (negsuc k) s in absurd (omega (arith, ints, h.low_least, h.low_most, h.high_least, l))
    ]

-- what is left of z above 0 is no further from 0 than z from the centre
nearer : (z : ℤ) (k d : ℕ)
    → unsigned_abs (pos (non_negative z) -ℤ pos d *ℤ pos 0) ≤ unsigned_abs (z -ℤ pos d *ℤ negsuc k)
nearer (pos n) k d = omega (arith, ints)
nearer (negsuc n) k d = omega (arith, ints)

up_to : (z : ℤ) (k d rm lo : ℕ) → rm ≤ lo + suc k → unsigned_abs (z -ℤ pos d *ℤ negsuc k) ≤ d * rm
    → unsigned_abs (pos (non_negative z) -ℤ pos d *ℤ pos 0) ≤ d * lo
up_to (pos n) k d rm lo h hz = let m = mul-le-mul_left d h in omega (arith, ints)
up_to (negsuc n) k d rm lo h hz = omega (arith, ints)

same_sum : (g1 g2 a b e e' : ℤ) → (g1 *ℤ a +ℤ g2 *ℤ b +ℤ pos 0 *ℤ e) ≡ (g1 *ℤ a +ℤ g2 *ℤ b +ℤ pos 0 *ℤ e')
same_sum g1 g2 a b e e' = omega (arith, ints)

more_room : (r r' h e e' : ℕ) → e ≤ e' → (r + 4) * h + (r' + 4) * e ≤ (r + 4) * h + (r' + 4) * e'
more_room r r' h e e' k = omega (arith, mul-le-mul_left (r' + 4) k)

-- the change where the centre's magnitude is below 0: the slope in the magnitude is 0
abbrev pub NegativeRow : ℤ → ℤ → ℤ → ℤ → ℤ → ℤ → ℤ → ℕ → ℕ → ℕ → ℕ → ℕ → ℤ → ℤ → ℕ → ℕ → Type 0
NegativeRow α β p q x y z v lo hi k d g1 g2 r r' =
    Near (minus (constant_current α β v lo hi x y z d) (constant_current α β v lo hi p q (negsuc k) 1))
    (g1 *ℤ (x -ℤ pos d *ℤ p) +ℤ g2 *ℤ (y -ℤ pos d *ℤ q) +ℤ pos 0 *ℤ (z -ℤ pos d *ℤ negsuc k))
    ((r + 4) * (unsigned_abs (x -ℤ pos d *ℤ p) + unsigned_abs (y -ℤ pos d *ℤ q)) + (r' + 4) * unsigned_abs (z -ℤ pos d *ℤ negsuc k)) (d * 2 ^ 40)

negative_by : (α β p q x y z g1 g2 : ℤ) (G v lo hi rm k d : ℕ) (t3 : Bool) → (t3 ≡ true → rm ≤ lo + suc k)
    → 0 < v → 0 < lo → lo ≤ hi → unsigned_abs α + unsigned_abs β ≤ G → unsigned_abs (z -ℤ pos d *ℤ negsuc k) ≤ d * rm
    → IsNearVoltage α v (clamp 0 lo hi) g1 → IsNearVoltage β v (clamp 0 lo hi) g2
    → NegativeRow α β p q x y z v lo hi k d g1 g2 (cond t3 0 (steady_radius_of G v lo (clamp 0 lo hi) rm))
    (cond t3 0 (magnitude_across_of G v lo (clamp 0 lo hi) p q rm))
negative_by α β p q x y z g1 g2 G v lo hi rm k d true out v_pos lo_pos lim hG hz h1 h2 =
    near_more _ _ _ _ _ (d * 2 ^ 40) (same_sum g1 g2 (x -ℤ pos d *ℤ p) (y -ℤ pos d *ℤ q)
    (pos (non_negative z) -ℤ pos d *ℤ pos 0) (z -ℤ pos d *ℤ negsuc k))
    (more_room 0 0 (unsigned_abs (x -ℤ pos d *ℤ p) + unsigned_abs (y -ℤ pos d *ℤ q)) _ _ (nearer z k d))
    (outside_5 α β p q x y (pos (non_negative z)) g1 g2 (pos 0) v lo hi lo 0 d v_pos lo_pos lim
    (up_to z k d rm lo (out refl) hz) (inl (let o : 0 + lo ≤ lo = omega arith in o)) h1 h2
    (let o : 0 ≤ 1 = omega arith in o))
negative_by α β p q x y z g1 g2 G v lo hi rm k d false out v_pos lo_pos lim hG hz h1 h2 =
    near_more _ _ _ _ _ (d * 2 ^ 40) (same_sum g1 g2 (x -ℤ pos d *ℤ p) (y -ℤ pos d *ℤ q)
    (pos (non_negative z) -ℤ pos d *ℤ pos 0) (z -ℤ pos d *ℤ negsuc k))
    (more_room (steady_radius_of G v lo (clamp 0 lo hi) rm) (magnitude_across_of G v lo (clamp 0 lo hi) p q rm)
    (unsigned_abs (x -ℤ pos d *ℤ p) + unsigned_abs (y -ℤ pos d *ℤ q)) _ _ (nearer z k d))
    (without_5 α β p q x y (pos (non_negative z)) g1 g2 (pos 0) G v lo hi rm 0 d v_pos lo_pos lim hG
    (le_trans (nearer z k d) hz) h1 h2 (let o : 0 ≤ 1 = omega arith in o))

-- ---- any magnitude

current_sizes : (r r' a b e ha hb he : ℕ) → a ≤ ha → b ≤ hb → e ≤ he
    → (r + 4) * (a + b) + (r' + 4) * e ≤ (r + 4) * ha + (r + 4) * hb + (r' + 4) * he
current_sizes r r' a b e ha hb he h k l = omega (arith, mul-le-mul_left (r + 4) h, mul-le-mul_left (r + 4) k, mul-le-mul_left (r' + 4) l)

case_false : (t : Bool) (n m : ℕ) → t ≡ false → cond t n m ≡ m
case_false true n m e = absurd cc
case_false false n m e = refl

pub current_row : (w : LoadPhase) (α β p q m x y z g1 g2 s : ℤ) (rm ha hb he d : ℕ) → IsLoadPhase w
    → unsigned_abs α + unsigned_abs β ≤ full_draw w → unsigned_abs (z -ℤ pos d *ℤ m) ≤ d * rm
    → unsigned_abs (x -ℤ pos d *ℤ p) ≤ ha → unsigned_abs (y -ℤ pos d *ℤ q) ≤ hb → unsigned_abs (z -ℤ pos d *ℤ m) ≤ he
    → IsNearVoltage α (nat_abs w.vn) (clamped_magnitude w m) g1
    → IsNearVoltage β (nat_abs w.vn) (clamped_magnitude w m) g2
    → IsRoundedMagnitude (magnitude_is_inside w m) (α *ℤ p +ℤ β *ℤ q) (nat_abs w.vn) (clamped_magnitude w m) s
    → (magnitude_is_inside w m ≡ false → s ≡ pos 0)
    → Row (constant_current α β (nat_abs w.vn) (nat_abs w.vlo) (nat_abs w.vhi) x y z d)
    (constant_current α β (nat_abs w.vn) (nat_abs w.vlo) (nat_abs w.vhi) p q m 1) (slope_row g1 g2 s)
    (radius_row (voltage_radius w m rm) (voltage_radius w m rm) (magnitude_radius w p q m rm)) (x -ℤ pos d *ℤ p)
    (y -ℤ pos d *ℤ q) (z -ℤ pos d *ℤ m) ha hb he d
current_row w α β p q (pos k) x y z g1 g2 s rm ha hb he d h hG hz ka kb ke h1 h2 h3 flat =
    near_more _ _ _ _ _ (d * 2 ^ 40) refl
    (current_sizes (voltage_radius w (pos k) rm) (magnitude_radius w p q (pos k) rm) (unsigned_abs (x -ℤ pos d *ℤ p))
    (unsigned_abs (y -ℤ pos d *ℤ q)) (unsigned_abs (z -ℤ pos d *ℤ pos k)) ha hb he ka kb ke)
    (current_by α β p q x y z g1 g2 s (full_draw w) (nat_abs w.vn) (nat_abs w.vlo) (nat_abs w.vhi) rm k d
    (magnitude_stays_inside w (pos k) rm) (magnitude_is_inside w (pos k)) (magnitude_stays_outside w (pos k) rm)
    (inside_same w k rm h) (lies_same w k h) (outside_same w k rm h) (nominal_positive w h) (low_positive w h)
    (limits_order w h) hG hz h1 h2 h3)
current_row w α β p q (negsuc k) x y z g1 g2 s rm ha hb he d h hG hz ka kb ke h1 h2 h3 flat =
    let none = flat (negative_lies w k h) in
    let inside = negative_inside w k rm h in
    let by = negative_by α β p q x y z g1 g2 (full_draw w) (nat_abs w.vn) (nat_abs w.vlo) (nat_abs w.vhi) rm k d
    (magnitude_stays_outside w (negsuc k) rm) (negative_outside w k rm h) (nominal_positive w h) (low_positive w h)
    (limits_order w h) hG hz h1 h2 in
    near_more _ _ _ _ _ (d * 2 ^ 40)
    (ap (λ s. g1 *ℤ (x -ℤ pos d *ℤ p) +ℤ g2 *ℤ (y -ℤ pos d *ℤ q) +ℤ s *ℤ (z -ℤ pos d *ℤ negsuc k)) (sym none))
    (rw (case_false (magnitude_stays_inside w (negsuc k) rm) _ _ inside, case_false (magnitude_stays_inside w (negsuc k) rm) _ _ inside)
    (current_sizes _ _ (unsigned_abs (x -ℤ pos d *ℤ p)) (unsigned_abs (y -ℤ pos d *ℤ q)) (unsigned_abs (z -ℤ pos d *ℤ negsuc k)) ha hb he ka kb ke))
    by
