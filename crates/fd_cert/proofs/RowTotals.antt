-- Totals up to 2^120, and the weighted sum of a row by them.
use Rattle.std.proofs.Common.{◌≡◌, ◌∙◌, ℕ, zero, suc, ◌+◌, ◌*◌, ◌<◌, ◌≤◌, ◌^◌, ℤ, pos, ◌+ℤ◌, ◌-ℤ◌, ◌*ℤ◌, nat_abs, List, [], ◌∷◌, take, length, get_or, set, cond, Option, Some, None, arith, ap, refl, sym, subst, inl, inr}
use Rattle.std.proofs.Math.Nat.{mul-le-mul}
use Rattle.std.proofs.lemmas.Bool.{cases_eq, cases_lt, eq-eqb, ne_eqb}
use Rattle.std.proofs.lemmas.Int.{ints}
use Rattle.std.proofs.lemmas.List.{get_or-set_other, get_or-set_same}
use Rattle.fd_enclosure.specs.fd_exact.States.{part}
use Rattle.fd_enclosure.specs.fd_exact.SumLaws.{sum_n-add, sum_n-same, sum_n-swap, sum_n-times}
use Rattle.fd_enclosure.specs.fd_exact.Sums.{list_n, list_z, sum_n, sum_z}
use Rattle.fd_enclosure.proofs.CallerLemmas.fd_equations.{list_n_more}
use Rattle.fd_enclosure.specs.fd_equations.Amounts.{Amount, IsRowOf}
use Rattle.fd_enclosure.specs.fd_equations.WalkLaws.{walk_sums}
use Rattle.fd_enclosure.specs.fd_equations.declared.cells.Cell.{Cell}
use Rattle.fd_enclosure.specs.fd_arith.Limits.{within}
use Rattle.fd_enclosure.specs.fd_arith.Nearest.{within-past}
use Rattle.fd_enclosure.specs.fd_arith.Wide.{wide_difference, wide_product, wide_size, wide_sum}
use Rattle.fd_enclosure.specs.Bounds.{added_at, left_at, left_over, unit_at, wide_sums}
use Rattle.fd_enclosure.specs.Sound.{number_at}
use Rattle.fd_cert.specs.Columns.{HasWeights, column_sum}
use Rattle.fd_cert.specs.Totals.{AreWeighted, IsUpTo, left_total, weighted_radius, weighted_total}
use Rattle.fd_cert.proofs.Units.{within_small}

-- ---- fronts of a sum

pub front_le : (f : ℕ → ℕ) (m n : ℕ) → m ≤ n → sum_n f m ≤ sum_n f n
front_le f m zero h = let e : m ≡ 0 = omega arith in subst (λ k. sum_n f k ≤ 0) (sym e) (omega arith)
front_le f m (suc n) h = elim (cases_lt m (suc n)) [
  | inl l ↦ let s = front_le f m n (omega arith) in omega arith
  | inr g ↦ let e : m ≡ suc n = omega arith in subst (λ k. sum_n f k ≤ sum_n f (suc n)) (sym e) (omega arith)
]

pub take_le : {X : Type 0} (f : X → ℕ) (k : ℕ) (xs : List X) → list_n f (take k xs) ≤ list_n f xs
take_le f zero xs = omega arith
take_le f (suc k) [] = omega arith
take_le f (suc k) (x ∷ xs) = let s = take_le f k xs in omega arith

-- ---- numbers up to 2^120

pub past_none : (k : ℕ) → 2 ^ 120 < k → within (pos k) ≡ None
past_none k h = within-past (pos k) (λ f. omega (arith, ints, f.1))

pub total_kept : (k : ℕ) → k ≤ 2 ^ 120 → within (pos k) ≡ Some (pos k)
total_kept k h = within_small (pos k) (omega arith)

plus_within : (a b : ℕ) → wide_sum (within (pos a)) (within (pos b)) ≡ within (pos (a + b))
plus_within a b = elim (cases_lt (2 ^ 120) a) [
  | inl p ↦ ap (λ o. wide_sum o (within (pos b))) (past_none a p) ∙ sym (past_none (a + b) (omega arith))
  | inr p ↦ elim (cases_lt (2 ^ 120) b) [
    | inl q ↦ (λ i. wide_sum (total_kept a p i) (past_none b q i)) ∙ sym (past_none (a + b) (omega arith))
    | inr q ↦ (λ i. wide_sum (total_kept a p i) (total_kept b q i)) ∙ ap within (both a b)
  ]
]
  where
    both : (a b : ℕ) → (pos a +ℤ pos b) ≡ pos (a + b)
    both a b = omega (arith, ints)

product_is : (a b : ℕ) → (pos a *ℤ pos b) ≡ pos (a * b)
product_is a b = refl

times_within : (a b : ℕ) → 0 < a → wide_product (Some (pos a)) (within (pos b)) ≡ within (pos (a * b))
times_within a b l = elim (cases_lt (2 ^ 120) b) [
  | inl p ↦ ap (wide_product (Some (pos a))) (past_none b p)
      ∙ sym (past_none (a * b) (let one : 1 ≤ a = omega arith in let m = mul-le-mul one p in omega arith))
  | inr p ↦ ap (wide_product (Some (pos a))) (total_kept b p) ∙ ap within (product_is a b)
]

size_within : (z : ℤ) → wide_size (within z) ≡ within (pos (nat_abs z))
size_within z = elim (cases_lt (2 ^ 120) (nat_abs z)) [
  | inl p ↦ ap wide_size (within-past z (λ f. omega (arith, ints, f.0, f.1))) ∙ sym (past_none (nat_abs z) p)
  | inr p ↦ ap wide_size (within_small z p)
]

sums_within : (f : ℕ → Option ℤ) (g : ℕ → ℕ) (n : ℕ) → ((j : ℕ) → j < n → f j ≡ within (pos (g j)))
    → wide_sums f n ≡ within (pos (sum_n g n))
sums_within f g zero h = sym (total_kept 0 (omega arith))
sums_within f g (suc n) h = (λ i. wide_sum (sums_within f g n (λ j l. h j (omega arith)) i) (h n (omega arith) i)) ∙ plus_within (sum_n g n) (g n)

-- the same up to 2^120
same_within : (total m : ℕ) → IsUpTo total m → within (pos m) ≡ within (pos total)
same_within total m h = elim (cases_lt (2 ^ 120) total) [
  | inl p ↦ past_none m (h.past p) ∙ sym (past_none total p)
  | inr p ↦ ap (λ k. within (pos k)) (h.same p)
]

same_times : (a total m : ℕ) → IsUpTo total m → within (pos (a * m)) ≡ within (pos (a * total))
same_times zero total m h = let none : 0 * m ≡ 0 * total = omega arith in ap (λ k. within (pos k)) none
same_times (suc a) total m h =
    sym (times_within (suc a) m (omega arith))
    ∙ ap (wide_product (Some (pos (suc a)))) (same_within total m h)
    ∙ times_within (suc a) total (omega arith)

-- ---- a row

module _ (n : ℕ) (C J : ℕ → ℕ → ℤ) (R : ℕ → ℕ → ℕ) (w : ℕ → ℕ) (i : ℕ) (sums : List ℤ)
    (column : (j : ℕ) → j < n → column_sum (C i) J j n ≡ Some (part sums j)) where
  abbrev left_size : ℕ → ℕ
  left_size j = nat_abs (unit_at i j -ℤ part sums j)

  abbrev added_size : ℕ → ℕ
  added_size j = sum_n (λ l. nat_abs (C i l) * R l j) n

  left_is : (j : ℕ) → j < n → left_at n C J R w i j ≡ within (pos (left_size j))
  left_is j l = ap (λ o. wide_size (wide_difference (Some (unit_at i j)) o)) (column j l) ∙ size_within (unit_at i j -ℤ part sums j)

  added_is : (j : ℕ) → added_at n C J R w i j ≡ within (pos (added_size j))
  added_is j =
      sums_within (λ l. wide_product (Some (pos (nat_abs (C i l)))) (Some (pos (R l j))))
      (λ l. nat_abs (C i l) * R l j) n (λ l m. ap within (product_is (nat_abs (C i l)) (R l j)))

  left_over_is : (j : ℕ) → j < n → left_over n C J R w i j ≡ within (pos (left_size j + added_size j))
  left_over_is j l = (λ k. wide_sum (left_is j l k) (added_is j k)) ∙ plus_within (left_size j) (added_size j)

  weighted_is : ((j : ℕ) → j < n → 0 < w j)
      → wide_sums (λ j. wide_product (Some (pos (w j))) (left_over n C J R w i j)) n ≡ within (pos (sum_n (λ j. w j * (left_size j + added_size j)) n))
  weighted_is p = sums_within (λ j. wide_product (Some (pos (w j))) (left_over n C J R w i j)) (λ j. w j * (left_size j + added_size j)) n
      (λ j l. ap (wide_product (Some (pos (w j)))) (left_over_is j l) ∙ times_within (w j) (left_size j + added_size j) (p j l))

  -- by exchange of the two sums
  exchanged : sum_n (λ j. w j * added_size j) n ≡ sum_n (λ l. nat_abs (C i l) * weighted_radius n R w l) n
  exchanged =
      sum_n-same (λ j. w j * added_size j) (λ j. sum_n (λ l. nat_abs (C i l) * (R l j * w j)) n) n (λ j l.
      sym (sum_n-times (w j) (λ l. nat_abs (C i l) * R l j) n)
      ∙ sum_n-same _ _ n (λ l m. turned (w j) (nat_abs (C i l)) (R l j)))
      ∙ sum_n-swap (λ j l. nat_abs (C i l) * (R l j * w j)) n n
      ∙ sum_n-same _ _ n (λ l m. sum_n-times (nat_abs (C i l)) (λ j. R l j * w j) n)
    where
      turned : (a b c : ℕ) → a * (b * c) ≡ b * (c * a)
      turned a b c = omega arith

  parted : sum_n (λ j. w j * (left_size j + added_size j)) n ≡ sum_n (λ j. w j * left_size j) n + sum_n (λ l. nat_abs (C i l) * weighted_radius n R w l) n
  parted =
      sum_n-same (λ j. w j * (left_size j + added_size j)) (λ j. w j * left_size j + w j * added_size j) n (λ j l. shared (w j) (left_size j) (added_size j))
      ∙ sum_n-add (λ j. w j * left_size j) (λ j. w j * added_size j) n
      ∙ ap (λ s. sum_n (λ j. w j * left_size j) n + s) exchanged
    where
      shared : (a b c : ℕ) → a * (b + c) ≡ a * b + a * c
      shared a b c = omega arith

  -- the numbers of the rows are their radii by weight, up to 2^120
  module _ (rows : List ℕ) (radii : AreWeighted n R w rows) where
    same_sizes : within (pos (sum_n (λ l. nat_abs (C i l) * number_at rows l) n)) ≡ within (pos (sum_n (λ l. nat_abs (C i l) * weighted_radius n R w l) n))
    same_sizes =
        sym (sums_within (λ l. within (pos (nat_abs (C i l) * number_at rows l)))
        (λ l. nat_abs (C i l) * number_at rows l) n (λ l m. refl))
        ∙ sums_within (λ l. within (pos (nat_abs (C i l) * number_at rows l)))
        (λ l. nat_abs (C i l) * weighted_radius n R w l) n (λ l m.
        same_times (nat_abs (C i l)) (weighted_radius n R w l) (number_at rows l) (radii.each l m))

    pub total_is : (ws : List ℤ) → HasWeights n ws w → ((j : ℕ) → j < n → 0 < w j)
        → within (pos (left_total n i ws sums + sum_n (λ l. nat_abs (C i l) * number_at rows l) n))
        ≡ wide_sums (λ j. wide_product (Some (pos (w j))) (left_over n C J R w i j)) n
    total_is ws h p =
        let a = left_total n i ws sums in
        let b = sum_n (λ j. w j * left_size j) n in
        let s = sum_n (λ l. nat_abs (C i l) * number_at rows l) n in
        let t = sum_n (λ l. nat_abs (C i l) * weighted_radius n R w l) n in
        let same : a ≡ b = sum_n-same _ _ n (λ j l. ap (λ z. nat_abs z * left_size j) (h j l)) in
        ap (λ k. within (pos (k + s))) same
        ∙ sym (plus_within b s) ∙ ap (wide_sum (within (pos b))) same_sizes ∙ plus_within b t
        ∙ ap (λ k. within (pos k)) (sym parted) ∙ sym (weighted_is p)

-- ---- a row of radii

list_pos : {X : Type 0} (f : X → ℕ) (xs : List X) → list_z (λ x. pos (f x)) xs ≡ pos (list_n f xs)
list_pos f [] = refl
list_pos f (x ∷ xs) = ap (λ z. pos (f x) +ℤ z) (list_pos f xs) ∙ omega (arith, ints)

sum_pos : (f : ℕ → ℕ) (n : ℕ) → sum_z (λ k. pos (f k)) n ≡ pos (sum_n f n)
sum_pos f zero = refl
sum_pos f (suc n) = ap (λ z. z +ℤ pos (f n)) (sum_pos f n) ∙ omega (arith, ints)

-- the cells of a row give what its columns give
pub row_weighted : (size row : ℕ) (at : ℕ × ℕ → Amount) (cells : List Cell) (R : ℕ → ℕ → ℕ) (w : ℕ → ℕ) (ws : List ℤ)
    → IsRowOf size at row cells → ((l j : ℕ) → (at (l, j)).units ≡ pos (R l j)) → HasWeights size ws w
    → list_n (λ c. nat_abs c.units * nat_abs (part ws c.col)) cells ≡ weighted_radius size R w row
row_weighted size row at cells R w ws h e is =
    ap nat_abs (sym (list_pos (λ c. nat_abs c.units * nat_abs (part ws c.col)) cells)
    ∙ walk_sums size at row cells (λ col z. pos (nat_abs z * nat_abs (part ws col))) h (λ col.
    ap pos (none (nat_abs (part ws col))))
    ∙ sum_pos (λ col. nat_abs (at (row, col)).units * nat_abs (part ws col)) size
    ∙ ap pos (sum_n-same (λ col. nat_abs (at (row, col)).units * nat_abs (part ws col)) (λ col. R row col * w col)
    size (λ col l. λ i. nat_abs (e row col i) * nat_abs (is col l i))))
  where
    none : (k : ℕ) → 0 * k ≡ 0
    none k = omega arith

-- a total that is past the limit on the way is past it at the end
pub past_front : (f : ℕ → ℕ) (k n from total : ℕ) → k < n → total ≡ from + sum_n f k → 2 ^ 120 < total + f k
    → 2 ^ 120 < from + sum_n f n
past_front f k n from total l e h = let s = front_le f (suc k) n (omega arith) in omega arith

pub past_sum : (f : ℕ → ℕ) (k n total : ℕ) → k < n → total ≡ sum_n f k → 2 ^ 120 < total + f k → 2 ^ 120 < sum_n f n
past_sum f k n total l e h = let s = front_le f (suc k) n (omega arith) in omega arith

pub past_take : {X : Type 0} (f : X → ℕ) (xs : List X) (k : ℕ) (d : X) (total : ℕ) → k < length xs
    → total ≡ list_n f (take k xs) → 2 ^ 120 < total + f (get_or xs k d) → 2 ^ 120 < list_n f xs
past_take f xs k d total l e h = let s = take_le f (k + 1) xs in let m = list_n_more f xs k d l in omega arith

pub front_more : (f : ℕ → ℕ) (k from total : ℕ) → total ≡ from + sum_n f k → total + f k ≡ from + sum_n f (k + 1)
front_more f k from total h =
    let next : suc k ≡ k + 1 = omega arith in
    let more : total + f k ≡ from + sum_n f (suc k) = omega (arith, h) in
    more ∙ ap (λ n. from + sum_n f n) next

-- what sums leave of a row of the unit matrix, where the row has been taken off them
pub left_is_weighted : (n i : ℕ) (ws sums : List ℤ) → i < length sums
    → left_total n i ws sums ≡ weighted_total n ws (set sums i (part sums i -ℤ pos (2 ^ 80)))
left_is_weighted n i ws sums l =
    sum_n-same (λ j. nat_abs (part ws j) * nat_abs (unit_at i j -ℤ part sums j))
    (λ j. nat_abs (part ws j) * nat_abs (part (set sums i (part sums i -ℤ pos (2 ^ 80))) j)) n
    (λ j m. ap (λ k. nat_abs (part ws j) * k) (size j))
  where
    back : (u s : ℤ) → nat_abs (u -ℤ s) ≡ nat_abs (s -ℤ u)
    back u s = omega (arith, ints)

    none : (s : ℤ) → nat_abs (pos 0 -ℤ s) ≡ nat_abs s
    none s = omega (arith, ints)

    size : (j : ℕ) → nat_abs (unit_at i j -ℤ part sums j) ≡ nat_abs (part (set sums i (part sums i -ℤ pos (2 ^ 80))) j)
    size j = elim (cases_eq i j) [
      | inl q ↦ subst (λ m. nat_abs (unit_at i m -ℤ part sums m) ≡ nat_abs (part (set sums i (part sums i -ℤ pos (2 ^ 80))) m)) q
          (ap (λ b. nat_abs (cond b (pos (2 ^ 80)) (pos 0) -ℤ part sums i)) (eq-eqb i i refl) ∙ back (pos (2 ^ 80)) (part sums i)
          ∙ ap nat_abs (sym (get_or-set_same sums i (part sums i -ℤ pos (2 ^ 80)) (pos 0) l)))
      | inr ne ↦
          ap (λ b. nat_abs (cond b (pos (2 ^ 80)) (pos 0) -ℤ part sums j)) (ne_eqb i j ne) ∙ none (part sums j)
          ∙ ap nat_abs (sym (get_or-set_other sums i j (part sums i -ℤ pos (2 ^ 80)) (pos 0) (λ q. ne (sym q))))
    ]
