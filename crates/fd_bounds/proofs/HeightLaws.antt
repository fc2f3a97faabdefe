-- Heights, by those of earlier rows.
use Rattle.std.proofs.Common.{◌≡◌, ◌∙◌, ℕ, suc, ◌+◌, ◌*◌, ◌<◌, ◌≤◌, ◌^◌, nat_abs, List, length, arith, ap, refl}
use Rattle.std.proofs.Math.Nat.{mul-le-mul_left}
use Rattle.fd_substitution.specs.fd_derived.fd_factors.Factors.{HasPlaces, allowance, defect, slack}
use Rattle.fd_substitution.specs.fd_derived.fd_factors.fd_exact.SumLaws.{sum_n-le}
use Rattle.fd_substitution.specs.fd_derived.Rows.{coefficient, radius, right_side_at, row_at}
use Rattle.fd_substitution.specs.fd_derived.declared.entries.Equation.{Equation}
use Rattle.fd_substitution.specs.fd_derived.declared.entries.Row.{Row}
use Rattle.fd_substitution.proofs.CallerLemmas.{filled_here, filled_kept}
use Rattle.fd_bounds.specs.Passes.{above_part, height_made, heights, load}
use Rattle.fd_bounds.proofs.Weighing.{weigh_le, weigh_same}

module _ (es : List Equation) (rows : List Row) where
  pub heights_kept : (c : ℕ → ℕ) (u t k : ℕ) → k < t → t ≤ u → heights es rows c u k ≡ heights es rows c t k
  heights_kept c u t k a b = filled_kept 0 (λ s. s) (height_made es rows c) u t k b (λ e l m same. omega arith)

  -- the height of a row among those of all
  pub height_at : (c : ℕ → ℕ) (u t : ℕ) → t < u → heights es rows c u t ≡ above_part (load es rows c (heights es rows c t) t) (2 ^ 40)
  height_at c u t h = heights_kept c u (suc t) t (omega arith) (omega arith) ∙ filled_here 0 (λ s. s) (height_made es rows c) t t refl

  -- ---- what a height stands above

  -- of the rows a row names earlier ones alone
  pub load_kept : (c : ℕ → ℕ) (u t : ℕ) → t ≤ u → HasPlaces t (row_at rows t).others
      → load es rows c (heights es rows c u) t ≡ load es rows c (heights es rows c t) t
  unfolding slack
  load_kept c u t h places =
      ap (λ w. w + slack (length es) (length rows) (2 ^ 40) (coefficient es) (radius es) (row_at rows) (right_side_at es) (heights es rows c t) c t)
      (weigh_same (heights es rows c u) (heights es rows c t) (row_at rows t).others (λ k d l. heights_kept c u t _ (places k d l) h))

  allowance_le : (h r c : ℕ → ℕ) → ((j : ℕ) → j < length es → r j ≤ c j) → (l : ℕ)
      → allowance (length es) (length rows) (2 ^ 40) (coefficient es) (radius es) (row_at rows) (right_side_at es) h r l
      ≤ allowance (length es) (length rows) (2 ^ 40) (coefficient es) (radius es) (row_at rows) (right_side_at es) h c l
  allowance_le h r c low l =
      let a = sum_n-le (λ j. radius es l j * r j) (λ j. radius es l j * c j) (length es) (λ j p. mul-le-mul_left (radius es l j) (low j p)) in
      omega arith

  -- with bounds that are no larger it is no larger
  pub load_le : (h r c : ℕ → ℕ) (t : ℕ) → ((j : ℕ) → j < length es → r j ≤ c j) → load es rows r h t ≤ load es rows c h t
  unfolding slack
  load_le h r c t low =
      let E = defect (length es) (length rows) (2 ^ 40) (coefficient es) (radius es) (row_at rows) t in
      let a = weigh_le (allowance (length es) (length rows) (2 ^ 40) (coefficient es) (radius es) (row_at rows) (right_side_at es) h r)
      (allowance (length es) (length rows) (2 ^ 40) (coefficient es) (radius es) (row_at rows) (right_side_at es) h c)
      (row_at rows t).equations (λ k d l. allowance_le h r c low _) in
      let b = sum_n-le (λ j. nat_abs (E j) * r j) (λ j. nat_abs (E j) * c j) (length es) (λ j p. mul-le-mul_left (nat_abs (E j)) (low j p)) in
      omega arith
