-- What stands above rows for right sides stands above them for smaller ones.
use Rattle.std.proofs.Common.{ℕ, ◌<◌, ◌≤◌, ℤ, nat_abs, List, [], ◌∷◌, arith}
use Rattle.std.proofs.Math.Nat.{mul-le-mul_left}
use Rattle.std.proofs.lemmas.List.Elements.{All-head, All-tail}
use Rattle.fd_factors.specs.Factors.{BoundsUnknown, DerivedRow, HasPlaces, IsAbove, allowance, slack, weighted_size}

weigh_le : (f g : ℕ → ℕ) (n : ℕ) (row : List (ℕ × ℤ)) → HasPlaces n row → ((l : ℕ) → l < n → f l ≤ g l) → weighted_size row f ≤ weighted_size row g
weigh_le f g n [] h e = omega arith
weigh_le f g n (t ∷ row) h e =
    let a = mul-le-mul_left (nat_abs t.1) (e t.0 (All-head (λ (u : ℕ × ℤ). u.0 < n) t row h)) in
    let b = weigh_le f g n row (All-tail (λ (u : ℕ × ℤ). u.0 < n) t row h) e in
    omega arith

module _ (n m s : ℕ) (J : ℕ → ℕ → ℤ) (R : ℕ → ℕ → ℕ) (rows : ℕ → DerivedRow) (low b h r : ℕ → ℕ)
    (smaller : (l : ℕ) → l < n → low l ≤ b l) where
  allowance_low : (l : ℕ) → l < n → allowance n m s J R rows low h r l ≤ allowance n m s J R rows b h r l
  allowance_low l l_in = let a = mul-le-mul_left s (smaller l l_in) in omega arith

  pub lower_above : (i : ℕ) → IsAbove n m s J R rows b h r i → IsAbove n m s J R rows low h r i
  unfolding slack
  lower_above i a =
      let w = weigh_le (allowance n m s J R rows low h r) (allowance n m s J R rows b h r) n (rows i).equations a.placed.equations allowance_low in
      let u = a.above in
      record { placed = a.placed; above = omega arith }

  pub lower_bounded : (i j : ℕ) → BoundsUnknown n m s J R rows b h r i j → BoundsUnknown n m s J R rows low h r i j
  lower_bounded i j a = record { row = a.row; pivot = a.pivot; rest = a.rest; left = a.left; above = a.above }
