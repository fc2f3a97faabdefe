-- What a row adds up to, in totals that are capped.
use Rattle.std.proofs.Common.{◌≡◌, ◌∙◌, ℕ, ◌+◌, ◌*◌, ◌<◌, ◌≤◌, ◌^◌, ℤ, nat_abs, leb, ltb, List, length, arith, ap, refl}
use Rattle.fd_factors.specs.Factors.{slack, weighted_size}
use Rattle.fd_factors.specs.fd_exact.States.{part}
use Rattle.fd_factors.specs.fd_exact.SumLaws.{sum_n-same}
use Rattle.fd_factors.specs.fd_exact.Sums.{sum_n}
use Rattle.fd_derived.specs.declared.entries.Claim.{Claim}
use Rattle.fd_derived.specs.declared.entries.Equation.{Equation}
use Rattle.fd_derived.specs.declared.entries.Row.{Row}
use Rattle.fd_derived.specs.Refusals.{added, added_sizes}
use Rattle.fd_derived.specs.Rows.{NamesExist, RowIsPlaced, allowance_of, bound_of, coefficients_at, defect_of, height_of, load_of, number_at, number_of_rows, row_at, rows_of}
use Rattle.fd_derived.specs.Sums.{AreTotals, capped, size_of, spread}
use Rattle.fd_derived.proofs.Caps.{both_capped, capped_sum, le_capped, lt_capped, next_capped, weighted_capped}

-- three summands, one after another, and each by what it is capped like
chain : (s1 s2 s3 w1 w2 w3 v1 v2 v3 : ℕ) → s1 ≡ capped (0 + w1) → s2 ≡ capped (s1 + w2) → s3 ≡ capped (s2 + w3)
    → capped w1 ≡ capped v1 → capped w2 ≡ capped v2 → capped w3 ≡ capped v3 → s3 ≡ capped (v1 + v2 + v3)
chain s1 s2 s3 w1 w2 w3 v1 v2 v3 a b c e f g =
    let two : s2 ≡ capped (w1 + w2) = b ∙ ap (λ x. capped (x + w2)) (a ∙ ap capped (zero_plus w1)) ∙ capped_sum w1 w2 in
    c ∙ ap (λ x. capped (x + w3)) two ∙ capped_sum (w1 + w2) w3
    ∙ both_capped (w1 + w2) w3 (v1 + v2) v3 (both_capped w1 w2 v1 v2 e f) g
  where
    zero_plus : (n : ℕ) → 0 + n ≡ n
    zero_plus n = omega arith

moved : (a b c : ℕ) → a + b + c ≡ c + (a + b)
moved a b c = omega arith

module _ (es : List Equation) (rows : List Row) (i : ℕ) (placed : NamesExist es rows i) where
  pub sizes : (L M : List ℕ) (s1 s2 s3 : ℕ) → AreTotals (λ l. size_of (coefficients_at es l)) (length es) L
      → AreTotals (λ k. size_of (row_at rows k).left) (length rows) M → i < length rows
      → s1 ≡ capped (0 + weighted_size (row_at rows i).equations (number_at L))
      → s2 ≡ capped (s1 + weighted_size (row_at rows i).others (number_at M))
      → s3 ≡ capped (s2 + 2 ^ 40 * number_at M i)
      → s3 ≡ capped (added_sizes es rows i)
  unfolding added_sizes
  sizes L M s1 s2 s3 made left i_in e f g =
      chain s1 s2 s3 (weighted_size (row_at rows i).equations (number_at L)) (weighted_size (row_at rows i).others (number_at M)) (2 ^ 40 * number_at M i)
      (weighted_size (row_at rows i).equations (λ l. size_of (coefficients_at es l))) (weighted_size (row_at rows i).others (λ k. size_of (row_at rows k).left))
      (2 ^ 40 * size_of (row_at rows i).left) e f g
      (weighted_capped (λ l. size_of (coefficients_at es l)) (number_at L) (length es) (row_at rows i).equations placed.equations made.each)
      (weighted_capped (λ k. size_of (row_at rows k).left) (number_at M) (length rows) (row_at rows i).others placed.others left.each)
      (next_capped (2 ^ 40) (number_at M i) (size_of (row_at rows i).left) (left.each i i_in))

module _ (es : List Equation) (c : Claim) (i : ℕ) (placed : RowIsPlaced es c i) where
  pub in_range : (size : ℕ) → size ≡ capped (added es c i) → leb size (2 ^ 120) ≡ leb (added es c i) (2 ^ 120)
  in_range size e = ap (λ x. leb x (2 ^ 120)) e ∙ le_capped (added es c i) (2 ^ 120) (omega arith)

  pub loads : (A : List ℕ) (sums : List ℤ) (n s1 s2 s3 : ℕ) → AreTotals (allowance_of es c) (length es) A → n ≡ length es
      → ((j : ℕ) → j < n → part sums j ≡ defect_of es c i j)
      → s1 ≡ capped (0 + weighted_size (rows_of c i).equations (number_at A))
      → s2 ≡ capped (s1 + spread sums c.bounds.items n)
      → s3 ≡ capped (s2 + weighted_size (rows_of c i).others (height_of c))
      → s3 ≡ capped (load_of es c i)
  unfolding slack
  loads A sums n s1 s2 s3 allowed long defects e f g =
      let D = sum_n (λ j. nat_abs (defect_of es c i j) * bound_of c j) (length es) in
      let spread_is : spread sums c.bounds.items n ≡ D =
      sum_n-same (λ j. nat_abs (part sums j) * bound_of c j) (λ j. nat_abs (defect_of es c i j) * bound_of c j) n
      (λ j l. ap (λ z. nat_abs z * bound_of c j) (defects j l))
      ∙ ap (λ k. sum_n (λ j. nat_abs (defect_of es c i j) * bound_of c j) k) long in
      chain s1 s2 s3 (weighted_size (rows_of c i).equations (number_at A)) (spread sums c.bounds.items n)
      (weighted_size (rows_of c i).others (height_of c))
      (weighted_size (rows_of c i).equations (allowance_of es c)) D (weighted_size (rows_of c i).others (height_of c)) e f g
      (weighted_capped (allowance_of es c) (number_at A) (length es) (rows_of c i).equations placed.equations allowed.each)
      (ap capped spread_is) refl
      ∙ ap capped (moved (weighted_size (rows_of c i).equations (allowance_of es c)) D (weighted_size (rows_of c i).others (height_of c)))

  pub stands_above : (load : ℕ) → load ≡ capped (load_of es c i) → height_of c i ≤ 2 ^ 87
      → ltb load (2 ^ 40 * height_of c i) ≡ ltb (load_of es c i) (2 ^ 40 * height_of c i)
  stands_above load e low =
      ap (λ x. ltb x (2 ^ 40 * height_of c i)) e ∙ lt_capped (load_of es c i) (2 ^ 40 * height_of c i) (omega arith)
