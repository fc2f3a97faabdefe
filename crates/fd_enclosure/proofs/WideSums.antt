-- Sums that are none where they pass the limit: where there is one it is exact.
use Rattle.std.proofs.Common.{◌≡◌, ◌∙◌, ℕ, zero, suc, ◌+◌, ◌*◌, ◌<◌, ◌^◌, ℤ, pos, ◌+ℤ◌, ◌-ℤ◌, ◌*ℤ◌, Bool, true, false, cond, Option, Some, None, arith, ap, refl, subst, lit<}
use Rattle.std.specs.Int.RustNames.{unsigned_abs}
use Rattle.std.proofs.Math.Nat.{mul-pos}
use Rattle.std.proofs.lemmas.Int.{ints}
use Rattle.fd_equations.specs.fd_exact.Quotients.{ceil_nat_is}
use Rattle.fd_equations.specs.fd_exact.Rounding.{ceil_div, ceil_nat}
use Rattle.fd_equations.specs.fd_exact.Sums.{sum_n, sum_z}
use Rattle.fd_slope.specs.fd_arith.Limits.{fits, within}
use Rattle.fd_slope.specs.fd_arith.Wide.{wide_difference, wide_product, wide_quotient, wide_size, wide_sum}
use Rattle.fd_enclosure.specs.Bounds.{bound_at, left_over, wide_sums}
use Rattle.fd_enclosure.proofs.Contraction.{left_in}

-- where there is a number it is this
abbrev pub Exactly : Option ℤ → ℤ → Type 0
Exactly o z = (k : ℤ) → o ≡ Some k → k ≡ z

pub within_exact : (z : ℤ) → Exactly (within z) z
unfolding within
within_exact z k e = by (fits z) e
  where
    by : (t : Bool) → cond t (Some z) None ≡ Some k → k ≡ z
    by true f = cc
    by false f = let no : ⊥ = cc in absurd no

within_as : (z w : ℤ) → z ≡ w → Exactly (within z) w
within_as z w e = subst (λ v. Exactly (within z) v) e (within_exact z)

pub some_exact : (z : ℤ) → Exactly (Some z) z
some_exact z k e = cc

pub none_exact : (z : ℤ) → Exactly None z
none_exact z k e = let no : ⊥ = cc in absurd no

pub sum_exact : (a b : Option ℤ) (x y : ℤ) → Exactly a x → Exactly b y → Exactly (wide_sum a b) (x +ℤ y)
sum_exact (Some a) (Some b) x y h g = within_as (a +ℤ b) (x +ℤ y) (λ i. h a refl i +ℤ g b refl i)
sum_exact (Some a) None x y h g = none_exact _
sum_exact None b x y h g = none_exact _

pub difference_exact : (a b : Option ℤ) (x y : ℤ) → Exactly a x → Exactly b y → Exactly (wide_difference a b) (x -ℤ y)
difference_exact (Some a) (Some b) x y h g = within_as (a -ℤ b) (x -ℤ y) (λ i. h a refl i -ℤ g b refl i)
difference_exact (Some a) None x y h g = none_exact _
difference_exact None b x y h g = none_exact _

pub product_exact : (a b : Option ℤ) (x y : ℤ) → Exactly a x → Exactly b y → Exactly (wide_product a b) (x *ℤ y)
product_exact (Some a) (Some b) x y h g = within_as (a *ℤ b) (x *ℤ y) (λ i. h a refl i *ℤ g b refl i)
product_exact (Some a) None x y h g = none_exact _
product_exact None b x y h g = none_exact _

pub size_exact : (a : Option ℤ) (x : ℤ) → Exactly a x → Exactly (wide_size a) (pos (unsigned_abs x))
size_exact (Some a) x h = within_as (pos (unsigned_abs a)) (pos (unsigned_abs x)) (ap (λ z. pos (unsigned_abs z)) (h a refl))
size_exact None x h = none_exact _

pub quotient_exact : (a : Option ℤ) (x : ℤ) (d : ℕ) → Exactly a x → Exactly (wide_quotient a d) (ceil_div x d)
quotient_exact (Some a) x d h = within_as (ceil_div a d) (ceil_div x d) (ap (λ z. ceil_div z d) (h a refl))
quotient_exact None x d h = none_exact _

pub sums_exact : (f : ℕ → Option ℤ) (g : ℕ → ℤ) (n : ℕ) → ((l : ℕ) → l < n → Exactly (f l) (g l))
    → Exactly (wide_sums f n) (sum_z g n)
sums_exact f g zero h = some_exact (pos 0)
sums_exact f g (suc n) h = sum_exact (wide_sums f n) (f n) (sum_z g n) (g n) (sums_exact f g n (λ l p. h l (omega arith))) (h n (omega arith))

-- ---- of naturals

as_exact : (a : Option ℤ) (z w : ℤ) → z ≡ w → Exactly a z → Exactly a w
as_exact a z w e h = subst (λ v. Exactly a v) e h

pos_sum : (f : ℕ → ℕ) (n : ℕ) → sum_z (λ l. pos (f l)) n ≡ pos (sum_n f n)
pos_sum f zero = refl
pos_sum f (suc n) = ap (λ z. z +ℤ pos (f n)) (pos_sum f n) ∙ added (sum_n f n) (f n)
  where
    added : (a b : ℕ) → (pos a +ℤ pos b) ≡ pos (a + b)
    added a b = omega (arith, ints)

pos_product : (a b : ℕ) → (pos a *ℤ pos b) ≡ pos (a * b)
pos_product a b = omega (arith, ints)

natural_sum : (a b : ℕ) → (pos a +ℤ pos b) ≡ pos (a + b)
natural_sum a b = omega (arith, ints)

pub natural_product : (b : Option ℤ) (x y : ℕ) → Exactly b (pos y)
    → Exactly (wide_product (Some (pos x)) b) (pos (x * y))
natural_product b x y h = as_exact _ (pos x *ℤ pos y) (pos (x * y)) (pos_product x y) (product_exact (Some (pos x)) b (pos x) (pos y) (some_exact (pos x)) h)

pub natural_sums : (f : ℕ → Option ℤ) (g : ℕ → ℕ) (n : ℕ) → ((l : ℕ) → l < n → Exactly (f l) (pos (g l)))
    → Exactly (wide_sums f n) (pos (sum_n g n))
natural_sums f g n h = as_exact _ (sum_z (λ l. pos (g l)) n) (pos (sum_n g n)) (pos_sum g n) (sums_exact f (λ l. pos (g l)) n h)

-- ---- the bound of a row

module _ (n : ℕ) (C J : ℕ → ℕ → ℤ) (R : ℕ → ℕ → ℕ) (w : ℕ → ℕ) where
  left_exact : (i j : ℕ) → Exactly (left_over n C J R w i j) (pos (left_in (pos (2 ^ 80)) C J R n i j))
  left_exact i j =
      let product = sums_exact (λ l. wide_product (Some (C i l)) (Some (J l j))) (λ l. C i l *ℤ J l j) n (λ l p.
      product_exact (Some (C i l)) (Some (J l j)) (C i l) (J l j) (some_exact (C i l)) (some_exact (J l j))) in
      let left = size_exact _ _ (difference_exact _ _ _ _ (some_exact _) product) in
      let added = natural_sums (λ l. wide_product (Some (pos (unsigned_abs (C i l)))) (Some (pos (R l j))))
      (λ l. unsigned_abs (C i l) * R l j) n (λ l p.
      natural_product (Some (pos (R l j))) (unsigned_abs (C i l)) (R l j) (some_exact (pos (R l j)))) in
      as_exact _ _ _ (natural_sum _ _) (sum_exact _ _ _ _ left added)

  -- the weighted sum of a row
  abbrev pub row_total : ℕ → ℕ
  row_total i = sum_n (λ j. w j * left_in (pos (2 ^ 80)) C J R n i j) n

  pub bound_exact : (i : ℕ) → 0 < w i → Exactly (bound_at n C J R w i) (pos (ceil_nat (row_total i) (w i * 2 ^ 40)))
  unfolding bound_at
  bound_exact i h =
      as_exact _ (ceil_div (pos (row_total i)) (w i * 2 ^ 40)) (pos (ceil_nat (row_total i) (w i * 2 ^ 40)))
      (ceil_nat_is (row_total i) (w i * 2 ^ 40) (mul-pos h (lit< tt))) (quotient_exact _ (pos (row_total i))
      (w i * 2 ^ 40) (natural_sums _ (λ j. w j * left_in (pos (2 ^ 80)) C J R n i j) n (λ j p.
      natural_product (left_over n C J R w i j) (w j) (left_in (pos (2 ^ 80)) C J R n i j) (left_exact i j))))
