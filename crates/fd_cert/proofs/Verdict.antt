-- The refusal and the radii from the bounds of the rows.
use Rattle.std.proofs.Common.{◌≡◌, ◌∙◌, ℕ, zero, suc, ◌+◌, ◌*◌, ◌-◌, ◌<◌, ◌≤◌, ◌^◌, ℤ, pos, ◌≤ℤ◌, ◌<ℤ◌, nat_abs, nat_le, nat_lt, int_lt, not, Bool, true, false, cond, List, length, Option, Some, None, IfSome, arith, max, rules, ap, refl, sym}
use Rattle.std.specs.Option.{option_or}
use Rattle.std.specs.Ordering.{nat_cmp, ord_max}
use Rattle.std.proofs.lemmas.Grind.{common_steps}
use Rattle.std.proofs.lemmas.Int.{ints}
use Rattle.std.proofs.lemmas.Bool.{leb-true}
use Rattle.fd_enclosure.specs.fd_exact.First.{first_place}
use Rattle.fd_enclosure.specs.fd_exact.Greatest.{greatest, greatest_le, greatest-same}
use Rattle.fd_enclosure.specs.fd_exact.Rounding.{ceil_nat}
use Rattle.fd_enclosure.specs.fd_exact.States.{part}
use Rattle.fd_enclosure.specs.fd_exact.Sums.{sum_n}
use Rattle.fd_enclosure.specs.fd_exact.Tables.{map-same}
use Rattle.fd_enclosure.specs.fd_equations.Rounded.{list_of}
use Rattle.fd_enclosure.proofs.CallerLemmas.fd_equations.{get_or-list_of, length-list_of}
use Rattle.fd_enclosure.specs.Bounds.{bound_at, bound_of, bound_size, first_unbounded, first_wide, is_below_one, radius_at, reach_of, refusal, refused_bound, unless_unbounded, unless_wide}
use Rattle.fd_enclosure.specs.Sound.{number_at}
use Rattle.fd_cert.specs.Columns.{HasNumbers, HasWeights}
use Rattle.fd_cert.specs.Reaches.{AreBounds, bound_in, is_unbounded, named_bound, radius_of, reach_in}
use Rattle.fd_cert.specs.Verdicts.{AreWithin, IsRefused}

pub first_same : (p q : ℕ → Bool) (n : ℕ) → ((k : ℕ) → k < n → p k ≡ q k) → first_place p n ≡ first_place q n
first_same p q zero h = refl
first_same p q (suc n) h = λ i. option_or (first_same p q n (λ k l. h k (omega arith)) i) (cond (h n (omega arith) i) (Some n) None)

pub sum_same : (f g : ℕ → ℕ) (n : ℕ) → ((k : ℕ) → k < n → f k ≡ g k) → sum_n f n ≡ sum_n g n
sum_same f g zero h = refl
sum_same f g (suc n) h = λ i. sum_same f g n (λ k l. h k (omega arith)) i + h n (omega arith) i

below : (k : ℤ) → int_lt k (pos (2 ^ 40)) ≡ true → k <ℤ pos (2 ^ 40)
below k e = grind (arith, ints)

-- what a bound is that doesn't reach one
pub record IsBelow (t : Bool) (o : Option ℤ) : Type 0 where
  pub within : t ≡ true
  pub small : bound_size o < 2 ^ 40

pub below_one : (t : Bool) (o : Option ℤ) → IfSome o (λ k. pos 0 ≤ℤ k) → not (is_below_one (cond t o None)) ≡ false
    → IsBelow t o
below_one true (Some k) h e = by_test (int_lt k (pos (2 ^ 40))) refl e
  where
    by_test : (b : Bool) → int_lt k (pos (2 ^ 40)) ≡ b → not b ≡ false → IsBelow true (Some k)
    by_test true q e = let l = below k q in record { within = refl; small = omega (arith, ints) }
    by_test false q e = absurd cc
below_one true None h e = absurd cc
below_one false o h e = absurd cc

-- what holds of each row where none reaches one
module _ (ws : List ℤ) (bounds : List (Option ℤ)) (reach : ℕ) (signs : AreBounds bounds)
    (all : (i : ℕ) → i < length bounds → is_unbounded ws reach bounds i ≡ false) where
  below_at : (i : ℕ) → i < length bounds → IsBelow (nat_le (nat_abs (part ws i) * reach) (2 ^ 120)) (bound_in bounds i)
  below_at i l = below_one (nat_le (nat_abs (part ws i) * reach) (2 ^ 120)) (bound_in bounds i) (signs i l) (all i l)

  pub product_at : (i : ℕ) → i < length bounds → nat_abs (part ws i) * reach ≤ 2 ^ 120
  product_at i l = leb-true (nat_abs (part ws i) * reach) (2 ^ 120) (below_at i l).within

  pub bound_below : greatest (λ i. bound_size (bound_in bounds i)) (length bounds) < 2 ^ 40
  bound_below =
      let g = greatest_le (λ i. bound_size (bound_in bounds i)) (length bounds) (2 ^ 40 - 1) (λ i l.
      let s = (below_at i l).small in omega arith) in
      omega arith

module _ (n : ℕ) (C J : ℕ → ℕ → ℤ) (R : ℕ → ℕ → ℕ) (w e : ℕ → ℕ) (ws : List ℤ) (bounds : List (Option ℤ)) (reach : ℕ)
    (b : bounds ≡ list_of n (bound_at n C J R w)) (h : HasWeights n ws w) (r : reach ≡ reach_of n C J R w e) where
  bound_read : (i : ℕ) → i < n → bound_in bounds i ≡ bound_at n C J R w i
  bound_read i l = ap (λ xs. bound_in xs i) b ∙ get_or-list_of n (bound_at n C J R w) i None l

  named_same : (i : ℕ) → i < n
      → named_bound (nat_abs (part ws i)) reach (bound_in bounds i) ≡ refused_bound n C J R w e i
  named_same i l = λ k. cond (nat_le (nat_abs (h i l k) * r k) (2 ^ 120)) (bound_read i l k) None

  unbounded_same : first_place (is_unbounded ws reach bounds) (length bounds) ≡ first_unbounded n C J R w e
  unbounded_same =
      ap (first_place (is_unbounded ws reach bounds)) (ap length b ∙ length-list_of n (bound_at n C J R w))
      ∙ first_same (is_unbounded ws reach bounds) (λ i. not (is_below_one (refused_bound n C J R w e i))) n
      (λ i l. ap (λ o. not (is_below_one o)) (named_same i l))

  pub refused : (place : ℕ) (sum : Option ℤ) → Some place ≡ first_place (is_unbounded ws reach bounds) (length bounds)
      → place < n → sum ≡ named_bound (nat_abs (part ws place)) reach (bound_in bounds place)
      → IsRefused n C J R w e place sum
  unfolding refusal
  refused place sum f l s = record {
    refusal = ap (unless_unbounded n C J R w e) (sym (f ∙ unbounded_same)) ∙ ap (λ o. Some (place, o)) (sym (s ∙ named_same place l));
    inside = l;
  }

  -- the radii, as a list
  module _ (none : None ≡ first_place (is_unbounded ws reach bounds) (length bounds)) (rs : List ℕ) (k : ℕ)
      (g : k ≡ greatest (λ i. bound_size (bound_in bounds i)) (length bounds)) (m : ℕ) (q : m ≡ n)
      (is : rs ≡ list_of m (λ i. radius_of (nat_abs (part ws i)) reach k)) where
    bound_same : k ≡ bound_of n C J R w
    bound_same =
        g ∙ ap (greatest (λ i. bound_size (bound_in bounds i))) (ap length b ∙ length-list_of n (bound_at n C J R w))
        ∙ greatest-same (λ i. bound_size (bound_in bounds i)) (λ i. bound_size (bound_at n C J R w i)) n (λ i l. ap bound_size (bound_read i l))

    radius_same : (i : ℕ) → i < n → radius_of (nat_abs (part ws i)) reach k ≡ radius_at n C J R w e i
    unfolding radius_at
    radius_same i l = λ j. radius_of (nat_abs (h i l j)) (r j) (bound_same j)

    radii_same : rs ≡ list_of n (radius_at n C J R w e)
    radii_same =
        is
        ∙ ap (λ m. list_of m (λ i. radius_of (nat_abs (part ws i)) reach k)) q
        ∙ map-same (λ i. radius_of (nat_abs (part ws i)) reach k) (radius_at n C J R w e) n 0 radius_same

    wide_same : first_place (λ i. nat_lt (2 ^ 40) (number_at rs i)) (length rs) ≡ first_wide n C J R w e
    wide_same =
        ap (first_place (λ i. nat_lt (2 ^ 40) (number_at rs i)))
        (ap length radii_same ∙ length-list_of n (radius_at n C J R w e))
        ∙ first_same (λ i. nat_lt (2 ^ 40) (number_at rs i)) (λ i. nat_lt (2 ^ 40) (radius_at n C J R w e i)) n
        (λ i l.
        ap (nat_lt (2 ^ 40)) (ap (λ xs. number_at xs i) radii_same ∙ get_or-list_of n (radius_at n C J R w e) i 0 l))

    pub too_wide : (place : ℕ) → Some place ≡ first_place (λ i. nat_lt (2 ^ 40) (number_at rs i)) (length rs)
        → place < n → IsRefused n C J R w e place None
    unfolding refusal
    too_wide place f l = record {
      refusal = ap (unless_unbounded n C J R w e) (sym (none ∙ unbounded_same)) ∙ ap (unless_wide n C J R w e) (sym (f ∙ wide_same));
      inside = l;
    }

    pub are_within : None ≡ first_place (λ i. nat_lt (2 ^ 40) (number_at rs i)) (length rs) → AreWithin n C J R w e rs
    unfolding refusal
    are_within f = record {
      refusal = ap (unless_unbounded n C J R w e) (sym (none ∙ unbounded_same)) ∙ ap (unless_wide n C J R w e) (sym (f ∙ wide_same));
      radii = radii_same;
    }

pub not_past : (limit n : ℕ) → n ≤ limit → nat_lt limit n ≡ false
not_past limit n h = grind arith

pub is_past : (limit n : ℕ) → limit < n → nat_lt limit n ≡ true
is_past limit n h = grind arith

-- a row's reach, as it was computed from lists
pub reach_is : (n : ℕ) (C : ℕ → ℕ → ℤ) (w e : ℕ → ℕ) (i : ℕ) (row : List ℤ) (ms : List ℕ) (weight : ℕ)
    → ((l : ℕ) → part row l ≡ C i l) → HasNumbers n ms e → weight ≡ w i
    → ceil_nat (sum_n (λ l. nat_abs (part row l) * (2 * number_at ms l)) n * 2 ^ 20) weight ≡ reach_in n C w e i
reach_is n C w e i row ms weight r h f = λ k.
    ceil_nat (sum_same (λ l. nat_abs (part row l) * (2 * number_at ms l)) (λ l. nat_abs (C i l) * (2 * e l)) n
    (λ l m. (λ j. nat_abs (r l j) * (2 * h l m j))) k * 2 ^ 20) (f k)

-- a test of a row's bound, as it was computed
pub tested_is : (r : Bool) (o b : Option ℤ) (m reach : ℕ) (w : ℤ) → r ≡ is_below_one o → o ≡ named_bound m reach b
    → m ≡ nat_abs w → not r ≡ not (is_below_one (named_bound (nat_abs w) reach b))
tested_is r o b m reach w e f g = ap not (e ∙ ap is_below_one (f ∙ ap (λ n. named_bound n reach b) g))

pub max_is : (a b : ℕ) → ord_max nat_cmp a b ≡ max a b
max_is a b = search (rules, common_steps)
