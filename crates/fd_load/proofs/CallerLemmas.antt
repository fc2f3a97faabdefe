-- Lemmas that this crate hands on.
use Rattle.std.proofs.Common.{◌≡◌, ◌^◌, ℤ, pos, neg_ℤ, ◌+ℤ◌, ◌*ℤ◌}
use Rattle.fd_system.specs.declared.loads.LoadPhase.{LoadPhase}
use Rattle.fd_load.specs.Current.{in_phase, quadrature}
use Rattle.fd_load.specs.ExactSlopes.{SlopeLaw}
use Rattle.fd_load.proofs.Away.{slopes_near}
use Rattle.fd_load.proofs.Drawn.{phase_top, quadrature_top}
pub use Rattle.fd_load.proofs.Bounds.{current_most}
pub use Rattle.fd_load.proofs.Drawn.{current_is, divisor-positive, magnitude_is}
pub use Rattle.fd_load.proofs.Sizes.{sum_most, times_most, turned, turned_largest}
pub use Rattle.fd_load.proofs.VoltageSizes.{high_is, high_most, low_is, low_least, low_most, nominal_held, part_held, part_kept}
pub use Rattle.fd_load.proofs.WithinLimit.{within_limit}
pub use Rattle.fd_system.proofs.CallerLemmas as fd_system

-- how near the rounded slopes are to the exact ones
pub slope_is_near : SlopeLaw
slope_is_near = slopes_near

-- the numerators of a current, as the system writes them
pub in_phase_is : (w : LoadPhase) (p q : ℤ) → (pos (10 ^ 9) *ℤ w.p *ℤ p +ℤ pos (10 ^ 9) *ℤ w.q *ℤ q) ≡ in_phase w p q
in_phase_is w p q = phase_top (10 ^ 9) w.p w.q p q

pub quadrature_is : (w : LoadPhase) (p q : ℤ)
    → (neg_ℤ (pos (10 ^ 9) *ℤ w.q) *ℤ p +ℤ pos (10 ^ 9) *ℤ w.p *ℤ q) ≡ quadrature w p q
quadrature_is w p q = quadrature_top (10 ^ 9) w.p w.q p q
