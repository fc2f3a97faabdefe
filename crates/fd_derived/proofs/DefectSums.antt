-- The defects of a row: the room that its sums have, and what they come to.
use Rattle.std.proofs.Common.{◌≡◌, ◌∙◌, ℕ, ◌+◌, ◌*◌, ◌<◌, ◌≤◌, ◌^◌, ℤ, pos, negsuc, ◌+ℤ◌, ◌-ℤ◌, ◌*ℤ◌, nat_abs, List, length, arith, ap, subst, sym}
use Rattle.std.proofs.lemmas.Int.{ints, unsigned_abs-mul}
use Rattle.fd_factors.specs.Factors.{defect, sum_at, weighted_size}
use Rattle.fd_factors.specs.fd_exact.States.{part}
use Rattle.fd_factors.specs.fd_exact.Sums.{list_z}
use Rattle.fd_derived.specs.declared.entries.Row.{Row}
use Rattle.fd_derived.specs.declared.entries.Equation.{Equation}
use Rattle.fd_derived.specs.Refusals.{added_sizes}
use Rattle.fd_derived.specs.Rows.{coefficients_at, row_at, row_defect}
use Rattle.fd_derived.specs.Sums.{AreZero, HasRoom, IsAdded, IsCombined, size_of}

pub one_times : (u : ℤ) → u ≡ pos 1 *ℤ u
one_times u = omega (arith, ints)

pub negated_size : (u : ℤ) → nat_abs (negsuc 0 *ℤ u) ≡ nat_abs u
negated_size u = unsigned_abs-mul (negsuc 0) u ∙ once (nat_abs u)
  where
    once : (n : ℕ) → 1 * n ≡ n
    once n = omega arith

in_all : (z a b c m n o : ℤ) → z ≡ pos 0 → m ≡ z +ℤ pos 1 *ℤ a → n ≡ m +ℤ negsuc 0 *ℤ b → o ≡ n +ℤ negsuc 1099511627775 *ℤ c → o ≡ a -ℤ b -ℤ pos 1099511627776 *ℤ c
in_all z a b c m n o e f g h = omega (arith, ints, e, f, g, h)

module _ (es : List Equation) (rows : List Row) (i : ℕ) (low : added_sizes es rows i ≤ 2 ^ 120) where
  abbrev by_equations : ℕ
  by_equations = weighted_size (row_at rows i).equations (λ l. size_of (coefficients_at es l))

  abbrev by_others : ℕ
  by_others = weighted_size (row_at rows i).others (λ k. size_of (row_at rows k).left)

  abbrev by_itself : ℕ
  by_itself = 2 ^ 40 * size_of (row_at rows i).left

  in_three : by_equations + by_others + by_itself ≤ 2 ^ 120
  unfolding added_sizes
  in_three = low

  pub first_room : (none : List ℤ) → AreZero none → HasRoom none by_equations
  first_room none zero j j_in =
      let z = ap nat_abs (zero j j_in) in
      let l = in_three in
      omega arith

  module _ (none first second third : List ℤ) (zero : AreZero none)
      (equations : IsCombined none first (row_at rows i).equations (coefficients_at es) (pos 1)) where
    pub second_room : HasRoom first by_others
    second_room j j_in =
        let j_none = subst (λ n. j < n) equations.long j_in in
        let z = ap nat_abs (zero j j_none) in
        let a = equations.low j j_none in
        let l = in_three in
        omega arith

    module _ (others : IsCombined first second (row_at rows i).others (λ k. (row_at rows k).left) (negsuc 0)) where
      pub third_room : HasRoom second (nat_abs (negsuc 1099511627775) * size_of (row_at rows i).left)
      third_room j j_in =
          let j_first = subst (λ n. j < n) others.long j_in in
          let j_none = subst (λ n. j < n) equations.long j_first in
          let z = ap nat_abs (zero j j_none) in
          let a = equations.low j j_none in
          let b = others.low j j_first in
          let l = in_three in
          omega arith

      pub defects_made : IsAdded second third (row_at rows i).left (negsuc 1099511627775) → (j : ℕ) → j < length none
          → part third j ≡ row_defect es rows i j
      unfolding defect
      defects_made itself j j_in =
          let j_first = subst (λ n. j < n) (sym equations.long) j_in in
          let j_second = subst (λ n. j < n) (sym others.long) j_first in
          in_all (part none j) (list_z (λ t. t.1 *ℤ sum_at (coefficients_at es t.0) j) (row_at rows i).equations)
          (list_z (λ t. t.1 *ℤ sum_at (row_at rows t.0).left j) (row_at rows i).others) (sum_at (row_at rows i).left j)
          (part first j) (part second j) (part third j) (zero j j_in) (equations.sums j j_in) (others.sums j j_first) (itself.sums j j_second)
