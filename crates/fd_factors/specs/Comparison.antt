-- The law of comparison: rows that hold sizes down, and numbers that stand above these rows.
use Rattle.std.specs.Prelude.{ℕ, ◌+◌, ◌*◌, ◌<◌, ◌≤◌}
use Rattle.fd_exact.specs.Sums.{sum_n}

-- n rows of naturals: D on the diagonal, N beside it, b at the right
module _ (n : ℕ) (D : ℕ → ℕ) (N : ℕ → ℕ → ℕ) (b : ℕ → ℕ) where
  -- each row holds its own size down by the others: D_i a_i <= sum_j N_ij a_j + d b_i, where d is the sizes' denominator
  abbrev pub HoldsDown : ℕ → (ℕ → ℕ) → Type 0
  HoldsDown d a = (i : ℕ) → i < n → D i * a i ≤ sum_n (λ j. N i j * a j) n + d * b i

  -- r is more than each row needs: sum_j N_ij r_j + b_i < D_i r_i
  abbrev pub StandsAbove : (ℕ → ℕ) → Type 0
  StandsAbove r = (i : ℕ) → i < n → sum_n (λ j. N i j * r j) n + b i < D i * r i

-- what stands above the rows is above each size that they hold down
abbrev pub ComparisonLaw : Type 0
ComparisonLaw = (n : ℕ) (D : ℕ → ℕ) (N : ℕ → ℕ → ℕ) (b : ℕ → ℕ) (d : ℕ) (a r : ℕ → ℕ)
    → HoldsDown n D N b d a → StandsAbove n D N b r → (i : ℕ) → i < n → a i ≤ d * r i
