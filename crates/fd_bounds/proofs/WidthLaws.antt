-- Bounds, by those of the unknowns of later rows.
use Rattle.std.proofs.Common.{◌≡◌, ◌≢◌, ◌∙◌, ℕ, zero, suc, ◌+◌, ◌<◌, ◌≤◌, ◌^◌, false, List, length, arith, ap, refl, subst, inl, inr, All}
use Rattle.std.proofs.lemmas.Bool.{cases_eq, ltb-false, or_parts}
use Rattle.fd_substitution.specs.fd_derived.declared.entries.Row.{Row}
use Rattle.fd_substitution.proofs.CallerLemmas.{filled_here, filled_kept, filled_start, filled_there}
use Rattle.fd_bounds.specs.Passes.{above_part, bound_made, bounds, from_last, is_wide, is_wide_over, remainder, unknown_from_last}
use Rattle.fd_bounds.specs.Rows.{pivot_at, rest_at, unknown_at}
use Rattle.fd_bounds.proofs.Weighing.{weigh_same}

-- a bound that isn't too large is at most 2^60
pub narrow : (s p : ℕ) → is_wide_over s p ≡ false → above_part s p ≤ 2 ^ 60
narrow s p e = let parts = or_parts _ _ e in ltb-false (2 ^ 60) (above_part s p) parts.1

module _ (rows : List Row) where
  -- no bound is past 2^60
  pub bounds_low : (h : ℕ → ℕ) (u j : ℕ) → ((d : ℕ) → d < u → is_wide rows h d ≡ false) → bounds rows h u j ≤ 2 ^ 60
  bounds_low h zero j narrow_all = rw (filled_start 0 (unknown_from_last rows) (bound_made rows h) j) (omega arith)
  bounds_low h (suc u) j narrow_all =
      elim (cases_eq (unknown_at rows (from_last rows u)) j) [
        | inl e ↦ rw (filled_here 0 (unknown_from_last rows) (bound_made rows h) u j e)
            (narrow (remainder rows h (bounds rows h u) (from_last rows u)) (pivot_at rows (from_last rows u)) (narrow_all u (omega arith)))
        | inr e ↦ rw (filled_there 0 (unknown_from_last rows) (bound_made rows h) u j e)
            (bounds_low h u j (λ d l. narrow_all d (omega arith)))
      ]

  module _ (h : ℕ → ℕ) (t d : ℕ) (behind : length rows ≡ suc (t + d)) where
    at_last : from_last rows d ≡ t
    at_last = omega arith

    -- the bound of a row's unknown, among those of all
    pub bound_at : ((s : ℕ) → s < t → unknown_at rows s ≢ unknown_at rows t)
        → bounds rows h (length rows) (unknown_at rows t) ≡ above_part (remainder rows h (bounds rows h d) t) (pivot_at rows t)
    bound_at apart =
        filled_kept 0 (unknown_from_last rows) (bound_made rows h) (length rows) (suc d) (unknown_at rows t) (omega arith)
        (λ e a b. apart (from_last rows e) (omega arith))
        ∙ subst (λ s. bounds rows h (suc d) (unknown_at rows s) ≡ above_part (remainder rows h (bounds rows h d) s) (pivot_at rows s)) at_last
        (filled_here 0 (unknown_from_last rows) (bound_made rows h) d (unknown_from_last rows d) refl)

    -- what it stands above is the same with the bounds of all
    pub remainder_kept : All (λ u. (s : ℕ) → s ≤ t → unknown_at rows s ≢ u.0) (rest_at rows t)
        → remainder rows h (bounds rows h (length rows)) t ≡ remainder rows h (bounds rows h d) t
    remainder_kept rest =
        ap (λ w. w + h t) (weigh_same (bounds rows h (length rows)) (bounds rows h d) (rest_at rows t)
        (λ k x l. filled_kept 0 (unknown_from_last rows) (bound_made rows h) (length rows) d _ (omega arith)
        (λ e a b. rest k x l (from_last rows e) (omega arith))))
