-- Lemmas that callers cite.
pub use Rattle.fd_pattern.proofs.DrawnSizes.{excess_small, in_phase_small, kept_by, kept_units, quadrature_small}
pub use Rattle.fd_pattern.proofs.Inside.{all_connected, all_inside, cross_inside}
pub use Rattle.fd_pattern.proofs.Order.{only_slot}
pub use Rattle.fd_load.proofs.CallerLemmas.fd_system as fd_system
pub use Rattle.fd_load.proofs.CallerLemmas as fd_load
