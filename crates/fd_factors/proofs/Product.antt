-- What equations and other rows say of what a derived row leaves: s |z_i| is at most what the others make of |z|, what
-- the equations make of |J y|, and what the defects add.
use Rattle.std.proofs.Common.{◌≡◌, ◌∙◌, ℕ, zero, suc, ◌+◌, ◌*◌, ◌<◌, ◌≤◌, ℤ, pos, ◌+ℤ◌, ◌-ℤ◌, ◌*ℤ◌, List, [], ◌∷◌, arith, ap, refl}
use Rattle.std.specs.Int.RustNames.{unsigned_abs}
use Rattle.std.proofs.Math.Nat.{mul-le-mul_left}
use Rattle.std.proofs.lemmas.Int.{ints, unsigned_abs-mul}
use Rattle.std.proofs.lemmas.List.Elements.{All-head, All-tail}
use Rattle.fd_exact.specs.Integers.{add-mul, assoc, as_val, vals, val-same, abs_add, abs_sub}
use Rattle.fd_exact.specs.SumLaws.{abs_sum, sum_n-same, sum_z-add, sum_z-same, sum_z-times, sum_z-zero}
use Rattle.fd_exact.specs.Sums.{list_z, sum_n, sum_z}
use Rattle.fd_factors.specs.Factors.{DerivedRow, Entry, HasPlaces, defect, left_at, weighted_size}
use Rattle.fd_factors.proofs.Places.{row_z}

zero_times : (z : ℤ) → pos 0 *ℤ z ≡ pos 0
zero_times z = omega (arith, ints)

-- multiples of rows, times y
pub multiples : (U : ℕ → ℕ → ℤ) (y : ℕ → ℤ) (n : ℕ) (row : List Entry)
    → sum_z (λ j. list_z (λ t. t.1 *ℤ U t.0 j) row *ℤ y j) n ≡ list_z (λ t. t.1 *ℤ sum_z (λ j. U t.0 j *ℤ y j) n) row
multiples U y n [] = sum_z-same _ _ n (λ j p. zero_times (y j)) ∙ sum_z-zero n
multiples U y n (t ∷ row) =
    sum_z-same _ _ n (λ j p. add-mul (t.1 *ℤ U t.0 j) (list_z (λ u. u.1 *ℤ U u.0 j) row) (y j))
    ∙ sum_z-add (λ j. t.1 *ℤ U t.0 j *ℤ y j) (λ j. list_z (λ u. u.1 *ℤ U u.0 j) row *ℤ y j) n
    ∙ rw (sum_z-same (λ j. t.1 *ℤ U t.0 j *ℤ y j) (λ j. t.1 *ℤ (U t.0 j *ℤ y j)) n (λ j p. assoc t.1 (U t.0 j) (y j)), sum_z-times t.1 (λ j. U t.0 j *ℤ y j) n, multiples U y n row) refl

split_step : (s : ℕ) (A B C j u p y : ℤ)
    → (A -ℤ B -ℤ pos s *ℤ C) +ℤ (j -ℤ u -ℤ pos s *ℤ p) *ℤ y ≡ (A +ℤ j *ℤ y) -ℤ (B +ℤ u *ℤ y) -ℤ pos s *ℤ (C +ℤ p *ℤ y)
split_step s A B C j u p y =
    rw (as_val A, as_val B, as_val C, as_val j, as_val u, as_val p, as_val y) (simp vals (val-same _ _ _ _ (omega arith)))

split_zero : (s : ℕ) → pos 0 ≡ pos 0 -ℤ pos 0 -ℤ pos s *ℤ pos 0
split_zero s = omega (arith, ints)

pub split : (s : ℕ) (J U P y : ℕ → ℤ) (n : ℕ)
    → sum_z (λ j. (J j -ℤ U j -ℤ pos s *ℤ P j) *ℤ y j) n
    ≡ sum_z (λ j. J j *ℤ y j) n -ℤ sum_z (λ j. U j *ℤ y j) n -ℤ pos s *ℤ sum_z (λ j. P j *ℤ y j) n
split s J U P y zero = split_zero s
split s J U P y (suc n) =
    ap (λ z. z +ℤ (J n -ℤ U n -ℤ pos s *ℤ P n) *ℤ y n) (split s J U P y n)
    ∙ split_step s (sum_z (λ j. J j *ℤ y j) n) (sum_z (λ j. U j *ℤ y j) n) (sum_z (λ j. P j *ℤ y j) n) (J n) (U n) (P n) (y n)

apart : (s : ℕ) (A B C E : ℤ) → E ≡ A -ℤ B -ℤ pos s *ℤ C → pos s *ℤ C ≡ (A -ℤ B) -ℤ E
apart s A B C E e = rw e (rw (as_val A, as_val B, as_val C) (simp vals (val-same _ _ _ _ (omega arith))))

sizes : (s : ℕ) (A B C E : ℤ) → E ≡ A -ℤ B -ℤ pos s *ℤ C → s * unsigned_abs C ≤ unsigned_abs B + (unsigned_abs A + unsigned_abs E)
sizes s A B C E e =
    let f = ap unsigned_abs (apart s A B C E e) in
    let g = abs_sub (A -ℤ B) E in
    let h = abs_sub A B in
    let b = unsigned_abs-mul (pos s) C in
    omega arith

pub abs_row : (z : ℕ → ℤ) (row : List Entry) → unsigned_abs (list_z (λ t. t.1 *ℤ z t.0) row) ≤ weighted_size row (λ j. unsigned_abs (z j))
abs_row z [] = omega arith
abs_row z (t ∷ row) =
    let a = abs_add (t.1 *ℤ z t.0) (list_z (λ u. u.1 *ℤ z u.0) row) in
    let b = unsigned_abs-mul t.1 (z t.0) in
    let c = abs_row z row in
    omega arith

pub reach_times : (a : ℕ → ℕ) (c : ℕ) (row : List Entry) → weighted_size row (λ j. a j * c) ≡ weighted_size row a * c
reach_times a c [] = omega arith
reach_times a c (t ∷ row) = let h = reach_times a c row in omega arith

-- a row of numbers that are at most g times q over p
pub reach_ratio : (f g : ℕ → ℕ) (p q n : ℕ) (row : List Entry) → HasPlaces n row → ((l : ℕ) → l < n → f l * p ≤ q * g l) → weighted_size row f * p ≤ q * weighted_size row g
reach_ratio f g p q n [] h le = omega arith
reach_ratio f g p q n (t ∷ row) h le =
    let a = mul-le-mul_left (unsigned_abs t.1) (le t.0 (All-head (λ (u : Entry). u.0 < n) t row h)) in
    let b = reach_ratio f g p q n row (All-tail (λ (u : Entry). u.0 < n) t row h) le in
    omega arith

pub reach_le : (f g : ℕ → ℕ) (n : ℕ) (row : List Entry) → HasPlaces n row → ((l : ℕ) → l < n → f l ≤ g l) → weighted_size row f ≤ weighted_size row g
reach_le f g n [] h le = omega arith
reach_le f g n (t ∷ row) h le =
    let a = mul-le-mul_left (unsigned_abs t.1) (le t.0 (All-head (λ (u : Entry). u.0 < n) t row h)) in
    let b = reach_le f g n row (All-tail (λ (u : Entry). u.0 < n) t row h) le in
    omega arith

first_part : (p q z : ℤ) → z ≡ p +ℤ q → unsigned_abs p ≤ unsigned_abs q + unsigned_abs z
first_part p q z e = rw e (omega (arith, ints))

module _ (n m s : ℕ) (J : ℕ → ℕ → ℤ) (R : ℕ → ℕ → ℕ) (rows : ℕ → DerivedRow) (y : ℕ → ℤ) where
  -- what a row leaves, times y
  abbrev pub rest : ℕ → ℤ
  rest i = sum_z (λ j. left_at n m s J R rows i j *ℤ y j) n

  -- an equation times y
  abbrev pub side : ℕ → ℤ
  side l = sum_z (λ j. J l j *ℤ y j) n

  pub lower_row : (i : ℕ)
      → s * unsigned_abs (rest i)
      ≤ weighted_size (rows i).others (λ k. unsigned_abs (rest k))
      + (weighted_size (rows i).equations (λ l. unsigned_abs (side l)) + sum_n (λ j. unsigned_abs (defect n m s J R rows i j) * unsigned_abs (y j)) n)
  unfolding defect
  lower_row i =
      let U = left_at n m s J R rows in
      let A = list_z (λ t. t.1 *ℤ side t.0) (rows i).equations in
      let B = list_z (λ t. t.1 *ℤ rest t.0) (rows i).others in
      let D = λ (j : ℕ). list_z (λ t. t.1 *ℤ J t.0 j) (rows i).equations -ℤ list_z (λ t. t.1 *ℤ U t.0 j) (rows i).others -ℤ pos s *ℤ U i j in
      let e : sum_z (λ j. D j *ℤ y j) n ≡ A -ℤ B -ℤ pos s *ℤ rest i =
      split s (λ j. list_z (λ t. t.1 *ℤ J t.0 j) (rows i).equations) (λ j. list_z (λ t. t.1 *ℤ U t.0 j) (rows i).others) (U i) y n
      ∙ rw (multiples J y n (rows i).equations, multiples U y n (rows i).others) refl in
      let one = sizes s A B (rest i) (sum_z (λ j. D j *ℤ y j) n) e in
      let two = abs_row rest (rows i).others in
      let three = abs_row side (rows i).equations in
      let four = abs_sum (λ j. D j *ℤ y j) n in
      let five = sum_n-same (λ j. unsigned_abs (D j *ℤ y j)) (λ j. unsigned_abs (D j) * unsigned_abs (y j)) n (λ j p. unsigned_abs-mul (D j) (y j)) in
      omega arith

  pub upper_row : (i j : ℕ) (pivot : ℤ) (others : List Entry) → HasPlaces n (rows i).left → (rows i).left ≡ (j, pivot) ∷ others
      → unsigned_abs pivot * unsigned_abs (y j) ≤ weighted_size others (λ k. unsigned_abs (y k)) + unsigned_abs (rest i)
  upper_row i j pivot others inside is =
      let e : rest i ≡ pivot *ℤ y j +ℤ list_z (λ t. t.1 *ℤ y t.0) others =
      row_z y n (rows i).left inside ∙ ap (list_z (λ (t : Entry). t.1 *ℤ y t.0)) is in
      let a = abs_row y others in
      let b = unsigned_abs-mul pivot (y j) in
      let c = first_part (pivot *ℤ y j) (list_z (λ t. t.1 *ℤ y t.0) others) (rest i) e in
      omega arith
