-- Sums of sizes by numbers that are the same, or no larger, and what stands above a quotient.
use Rattle.std.proofs.Common.{◌≡◌, ℕ, ◌+◌, ◌*◌, ◌/◌, ◌<◌, ◌≤◌, ℤ, nat_abs, List, [], ◌∷◌, arith, refl, All}
use Rattle.std.proofs.Math.Nat.{mul-le-mul_left}
use Rattle.std.proofs.lemmas.List.Elements.{All-head, All-tail}
use Rattle.std.proofs.lemmas.Nat.{div-add-mod', mod_below}
use Rattle.fd_substitution.specs.fd_derived.fd_factors.Factors.{weighted_size}
use Rattle.fd_bounds.specs.Passes.{above_part}

pub weigh_same : (f g : ℕ → ℕ) (row : List (ℕ × ℤ)) → All (λ t. f t.0 ≡ g t.0) row → weighted_size row f ≡ weighted_size row g
weigh_same f g [] h = refl
weigh_same f g (t ∷ row) h =
    let a = All-head (λ (u : ℕ × ℤ). f u.0 ≡ g u.0) t row h in
    let b = weigh_same f g row (All-tail (λ (u : ℕ × ℤ). f u.0 ≡ g u.0) t row h) in
    rw (a, b) refl

pub weigh_le : (f g : ℕ → ℕ) (row : List (ℕ × ℤ)) → All (λ t. f t.0 ≤ g t.0) row → weighted_size row f ≤ weighted_size row g
weigh_le f g [] h = omega arith
weigh_le f g (t ∷ row) h =
    let a = mul-le-mul_left (nat_abs t.1) (All-head (λ (u : ℕ × ℤ). f u.0 ≤ g u.0) t row h) in
    let b = weigh_le f g row (All-tail (λ (u : ℕ × ℤ). f u.0 ≤ g u.0) t row h) in
    omega arith

-- the quotient and one, taken so many times, is above s
pub stands_above : (s times : ℕ) → 0 < times → s < times * above_part s times
stands_above s times h =
    let a = div-add-mod' s times in
    let b = mod_below s times h in
    let e : times * (s / times + 1) ≡ s / times * times + times = turn times (s / times) in
    omega arith
  where
    turn : (a b : ℕ) → a * (b + 1) ≡ b * a + a
    turn a b = omega arith
