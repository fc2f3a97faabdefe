-- The radii of unknowns from bounds of rows.
use Rattle.std.specs.Prelude.{ℕ, ◌*◌, ◌-◌, ◌^◌, ◌<◌, ◌≤◌, ℤ, pos, ◌≤ℤ◌, nat_abs, nat_le, not, Bool, cond, List, get_or, length, IfSome, Option, None}
use Rattle.fd_enclosure.specs.fd_exact.Rounding.{ceil_nat}
use Rattle.fd_enclosure.specs.fd_exact.States.{part}
use Rattle.fd_enclosure.specs.fd_exact.Sums.{sum_n}
use Rattle.fd_enclosure.specs.Bounds.{is_below_one}
use Rattle.fd_enclosure.specs.Sound.{greatest_mismatch, number_at}

-- the radius of a weight, for a reach and a bound
abbrev pub radius_of : ℕ → ℕ → ℕ → ℕ
radius_of weight reach bound = ceil_nat (weight * reach) (2 ^ 20 * (2 ^ 40 - bound))

-- the bound that a refusal names
abbrev pub named_bound : ℕ → ℕ → Option ℤ → Option ℤ
named_bound weight reach bound = cond (nat_le (weight * reach) (2 ^ 120)) bound None

-- a bound of a list, none outside it
abbrev pub bound_in : List (Option ℤ) → ℕ → Option ℤ
bound_in bounds i = get_or bounds i None

-- whether a bound of a list reaches one as a refusal names it
abbrev pub is_unbounded : List ℤ → ℕ → List (Option ℤ) → ℕ → Bool
is_unbounded ws reach bounds i = not (is_below_one (named_bound (nat_abs (part ws i)) reach (bound_in bounds i)))

-- how far unknown i may be by the inverse, for the first n mismatches, over its weight
abbrev pub reach_in : ℕ → (ℕ → ℕ → ℤ) → (ℕ → ℕ) → (ℕ → ℕ) → ℕ → ℕ
reach_in n C w e i = ceil_nat (sum_n (λ l. nat_abs (C i l) * (2 * e l)) n * 2 ^ 20) (w i)

-- each mismatch is at most the greatest of a solution
abbrev pub AreTight : List ℕ → Type 0
AreTight e = (l : ℕ) → l < length e → number_at e l ≤ greatest_mismatch

-- no bound is negative
abbrev pub AreBounds : List (Option ℤ) → Type 0
AreBounds bounds = (i : ℕ) → i < length bounds → IfSome (bound_in bounds i) (λ k. pos 0 ≤ℤ k)
