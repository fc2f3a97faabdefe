-- Rows whose change is a sum of coefficients times what moved, up to radii times what moved.
use Rattle.std.proofs.Common.{◌≡◌, ◌∙◌, ℕ, zero, suc, ◌+◌, ◌*◌, ◌<◌, ◌≤◌, ℤ, pos, neg_ℤ, ◌+ℤ◌, ◌-ℤ◌, ◌*ℤ◌, false, cond, eqb, List, [], ◌∷◌, arith, ap, refl, subst, sym, inl, inr}
use Rattle.std.specs.List.{All}
use Rattle.std.specs.Int.RustNames.{unsigned_abs}
use Rattle.std.proofs.Math.Nat.{le_trans, mul-le-mul_right}
use Rattle.std.proofs.lemmas.Bool.{cases_lt, ne_eqb, eq-eqb}
use Rattle.std.proofs.lemmas.Int.{ints}
use Rattle.std.proofs.lemmas.List.Elements.{All-head, All-tail}
use Rattle.fd_equations.specs.fd_exact.Fractions.{Fraction, Near, minus, opposite, nothing, ◌⊕◌}
use Rattle.fd_equations.specs.fd_exact.Integers.{add-mul, neg-mul, as_val, pos_val, vals, val-same}
use Rattle.fd_equations.specs.fd_exact.Near.{near_plus}
use Rattle.fd_equations.specs.fd_exact.SumLaws.{sum_n-add, sum_n-le, sum_n-same, sum_n-zero, sum_z-add, sum_z-neg, sum_z-same, sum_z-zero}
use Rattle.fd_equations.specs.fd_exact.Sums.{list_n, list_z, sum_n, sum_of, sum_z}

-- ---- sums over what moved

-- J 0 (y 0) + .. + J (n - 1) (y (n - 1))
abbrev pub moved : (ℕ → ℤ) → ℕ → (ℕ → ℤ) → ℤ
moved y n J = sum_z (λ j. J j *ℤ y j) n

-- the same with sizes
abbrev pub spanned : (ℕ → ℤ) → ℕ → (ℕ → ℕ) → ℕ
spanned y n R = sum_n (λ j. R j * unsigned_abs (y j)) n

zero_times : (z : ℤ) → (pos 0 *ℤ z) ≡ pos 0
zero_times z = omega (arith, ints)

pub moved-zero : (y : ℕ → ℤ) (n : ℕ) → moved y n (λ j. pos 0) ≡ pos 0
moved-zero y n = sum_z-same _ _ n (λ j p. zero_times (y j)) ∙ sum_z-zero n

pub moved-add : (y : ℕ → ℤ) (n : ℕ) (J K : ℕ → ℤ) → moved y n (λ j. J j +ℤ K j) ≡ (moved y n J +ℤ moved y n K)
moved-add y n J K = sum_z-same _ _ n (λ j p. add-mul (J j) (K j) (y j)) ∙ sum_z-add (λ j. J j *ℤ y j) (λ j. K j *ℤ y j) n

pub moved-neg : (y : ℕ → ℤ) (n : ℕ) (J : ℕ → ℤ) → moved y n (λ j. neg_ℤ (J j)) ≡ neg_ℤ (moved y n J)
moved-neg y n J = sum_z-same _ _ n (λ j p. neg-mul (J j) (y j)) ∙ sum_z-neg (λ j. J j *ℤ y j) n

pub moved-same : (y : ℕ → ℤ) (n : ℕ) (J K : ℕ → ℤ) → ((j : ℕ) → j < n → J j ≡ K j) → moved y n J ≡ moved y n K
moved-same y n J K h = sum_z-same _ _ n (λ j p. ap (λ z. z *ℤ y j) (h j p))

zero_span : (a : ℕ) → 0 * a ≡ 0
zero_span a = omega arith

pub spanned-zero : (y : ℕ → ℤ) (n : ℕ) → spanned y n (λ j. 0) ≡ 0
spanned-zero y n = sum_n-same _ _ n (λ j p. zero_span (unsigned_abs (y j))) ∙ sum_n-zero n

add_span : (r s a : ℕ) → (r + s) * a ≡ r * a + s * a
add_span r s a = omega arith

pub spanned-add : (y : ℕ → ℤ) (n : ℕ) (R S : ℕ → ℕ) → spanned y n (λ j. R j + S j) ≡ spanned y n R + spanned y n S
spanned-add y n R S =
    sum_n-same _ _ n (λ j p. add_span (R j) (S j) (unsigned_abs (y j)))
    ∙ sum_n-add (λ j. R j * unsigned_abs (y j)) (λ j. S j * unsigned_abs (y j)) n

pub spanned-le : (y : ℕ → ℤ) (n : ℕ) (R S : ℕ → ℕ) → ((j : ℕ) → j < n → R j ≤ S j) → spanned y n R ≤ spanned y n S
spanned-le y n R S h = sum_n-le _ _ n (λ j p. mul-le-mul_right (unsigned_abs (y j)) (h j p))

-- ---- one place alone

other_moved : (y : ℕ → ℤ) (s : ℤ) (c n : ℕ) → n ≤ c → moved y n (λ j. cond (eqb c j) s (pos 0)) ≡ pos 0
other_moved y s c zero h = refl
other_moved y s c (suc n) h =
    let e : eqb c n ≡ false = ne_eqb c n (λ p. omega arith) in
    rw (other_moved y s c n (omega arith), e) (omega (arith, ints))

pub single_moved : (y : ℕ → ℤ) (s : ℤ) (c n : ℕ) → c < n → moved y n (λ j. cond (eqb c j) s (pos 0)) ≡ (s *ℤ y c)
single_moved y s c zero h = absurd (omega arith)
single_moved y s c (suc n) h =
    elim (cases_lt c n) [
      | inl p ↦ let e : eqb c n ≡ false = ne_eqb c n (λ s. omega arith) in
          rw (single_moved y s c n p, e) (omega (arith, ints))
      | inr p ↦ let q : c ≡ n = omega arith in
          rw (other_moved y s c n p, eq-eqb c n q) (rw q (omega (arith, ints)))
    ]

other_spanned : (y : ℕ → ℤ) (r c n : ℕ) → n ≤ c → spanned y n (λ j. cond (eqb c j) r 0) ≡ 0
other_spanned y r c zero h = refl
other_spanned y r c (suc n) h =
    let e : eqb c n ≡ false = ne_eqb c n (λ p. omega arith) in
    rw (other_spanned y r c n (omega arith), e) (omega arith)

pub single_spanned : (y : ℕ → ℤ) (r c n : ℕ) → c < n → spanned y n (λ j. cond (eqb c j) r 0) ≡ r * unsigned_abs (y c)
single_spanned y r c zero h = absurd (omega arith)
single_spanned y r c (suc n) h =
    elim (cases_lt c n) [
      | inl p ↦ let e : eqb c n ≡ false = ne_eqb c n (λ s. omega arith) in
          rw (single_spanned y r c n p, e) (omega arith)
      | inr p ↦ let q : c ≡ n = omega arith in
          rw (other_spanned y r c n p, eq-eqb c n q) (rw q (omega arith))
    ]

-- ---- rows

-- from b to a the row changes by what moved times J, up to what moved times R, over k
abbrev pub RowNear : (ℕ → ℤ) → ℕ → ℕ → Fraction → Fraction → (ℕ → ℤ) → (ℕ → ℕ) → Type 0
RowNear y n k a b J R = Near (minus a b) (moved y n J) (spanned y n R) k

pub near_more : (f : Fraction) (t s : ℤ) (n m k : ℕ) → t ≡ s → n ≤ m → Near f t n k → Near f s m k
near_more f t s n m k e h near = subst (λ z. unsigned_abs ((f.top *ℤ pos k) -ℤ (z *ℤ pos f.over)) ≤ m * f.over) e (le_trans near (mul-le-mul_right f.over h))

module _ (y : ℕ → ℤ) (n k : ℕ) where
  pub row_more : (a b : Fraction) (J K : ℕ → ℤ) (R S : ℕ → ℕ) → ((j : ℕ) → j < n → J j ≡ K j)
      → ((j : ℕ) → j < n → R j ≤ S j) → RowNear y n k a b J R → RowNear y n k a b K S
  row_more a b J K R S e h near =
      near_more (minus a b) (moved y n J) (moved y n K) (spanned y n R) (spanned y n S) k (moved-same y n J K e)
      (spanned-le y n R S h) near

  pub row_plus : (a b c d : Fraction) (J K : ℕ → ℤ) (R S : ℕ → ℕ) → RowNear y n k a b J R → RowNear y n k c d K S
      → RowNear y n k (a ⊕ c) (b ⊕ d) (λ j. J j +ℤ K j) (λ j. R j + S j)
  unfolding ◌⊕◌
  row_plus a b c d J K R S h g =
      near_more (minus (a ⊕ c) (b ⊕ d)) (moved y n J +ℤ moved y n K) (moved y n (λ j. J j +ℤ K j))
      (spanned y n R + spanned y n S) (spanned y n (λ j. R j + S j)) k
      (sym (moved-add y n J K)) (omega (arith, spanned-add y n R S))
      (near_plus a b c d (moved y n J) (moved y n K) (spanned y n R) (spanned y n S) k h g)

  still : (t : ℤ) (o : ℕ)
      → unsigned_abs ((((t *ℤ pos o) -ℤ (t *ℤ pos o)) *ℤ pos k) -ℤ (pos 0 *ℤ pos (o * o))) ≤ 0 * (o * o)
  still t o =
      let e : ((((t *ℤ pos o) -ℤ (t *ℤ pos o)) *ℤ pos k) -ℤ (pos 0 *ℤ pos (o * o))) ≡ pos 0 = gone (t *ℤ pos o) (o * o) in
      rw e (omega arith)
    where
      gone : (z : ℤ) (m : ℕ) → (((z -ℤ z) *ℤ pos k) -ℤ (pos 0 *ℤ pos m)) ≡ pos 0
      gone z m = rw (as_val z) (simp vals (val-same _ _ 0 0 (omega arith) ∙ sym (pos_val 0)))

  -- a row that doesn't change
  pub row_still : (a : Fraction) → RowNear y n k a a (λ j. pos 0) (λ j. 0)
  row_still a =
      near_more (minus a a) (pos 0) (moved y n (λ j. pos 0)) 0 (spanned y n (λ j. 0)) k (sym (moved-zero y n))
      (omega (arith, spanned-zero y n)) (still a.top a.over)

  turned : (s t v : ℤ) (a b m : ℕ) → unsigned_abs ((((s *ℤ pos b) -ℤ (t *ℤ pos a)) *ℤ pos k) -ℤ (v *ℤ pos (a * b))) ≤ m
      → unsigned_abs ((((neg_ℤ s *ℤ pos b) -ℤ (neg_ℤ t *ℤ pos a)) *ℤ pos k) -ℤ (neg_ℤ v *ℤ pos (a * b))) ≤ m
  turned s t v a b m h =
      let e : ((((neg_ℤ s *ℤ pos b) -ℤ (neg_ℤ t *ℤ pos a)) *ℤ pos k) -ℤ (neg_ℤ v *ℤ pos (a * b)))
      ≡ neg_ℤ ((((s *ℤ pos b) -ℤ (t *ℤ pos a)) *ℤ pos k) -ℤ (v *ℤ pos (a * b))) =
      rw (as_val s, as_val t, as_val v) (simp vals (val-same _ _ _ _ (omega arith))) in
      rw e (flipped ((((s *ℤ pos b) -ℤ (t *ℤ pos a)) *ℤ pos k) -ℤ (v *ℤ pos (a * b))) h)
    where
      flipped : (z : ℤ) → unsigned_abs z ≤ m → unsigned_abs (neg_ℤ z) ≤ m
      flipped z l = omega (arith, ints)

  pub row_opposite : (a b : Fraction) (J : ℕ → ℤ) (R : ℕ → ℕ) → RowNear y n k a b J R
      → RowNear y n k (opposite a) (opposite b) (λ j. neg_ℤ (J j)) R
  unfolding opposite
  row_opposite a b J R h =
      near_more (minus (opposite a) (opposite b)) (neg_ℤ (moved y n J)) (moved y n (λ j. neg_ℤ (J j))) (spanned y n R)
      (spanned y n R) k (sym (moved-neg y n J)) (omega arith)
      (turned a.top b.top (moved y n J) a.over b.over (spanned y n R * (a.over * b.over)) h)

  -- a row that one place moves
  pub row_single : (a b : Fraction) (s : ℤ) (r c : ℕ) → c < n → Near (minus a b) (s *ℤ y c) (r * unsigned_abs (y c)) k
      → RowNear y n k a b (λ j. cond (eqb c j) s (pos 0)) (λ j. cond (eqb c j) r 0)
  row_single a b s r c h near =
      near_more (minus a b) (s *ℤ y c) (moved y n (λ j. cond (eqb c j) s (pos 0))) (r * unsigned_abs (y c)) (spanned y n (λ j. cond (eqb c j) r 0)) k
      (sym (single_moved y s c n h)) (omega (arith, single_spanned y r c n h)) near

  -- summands of a list
  pub row_list : {A : Type 0} (P : A → Type 0) (f g : A → Fraction) (J : A → ℕ → ℤ) (R : A → ℕ → ℕ) (xs : List A)
      → All P xs → ((a : A) → P a → RowNear y n k (f a) (g a) (J a) (R a))
      → RowNear y n k (sum_of f xs) (sum_of g xs) (λ j. list_z (λ a. J a j) xs) (λ j. list_n (λ a. R a j) xs)
  row_list P f g J R [] all h = row_still nothing
  row_list P f g J R (a ∷ xs) all h =
      row_plus (f a) (g a) (sum_of f xs) (sum_of g xs) (J a) (λ j. list_z (λ b. J b j) xs) (R a) (λ j. list_n (λ b. R b j) xs)
      (h a (All-head P a xs all)) (row_list P f g J R xs (All-tail P a xs all) h)
