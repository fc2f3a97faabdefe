-- Lemmas that callers cite.
pub use Rattle.fd_enclosure.proofs.Certificates.{all_bounded, all_narrow, claim_is, is_by_inverse, not_refused, sound_inverse}
pub use Rattle.fd_enclosure.proofs.Residuals.{centre_meets}
pub use Rattle.fd_equations.proofs.CallerLemmas.fd_pattern as fd_pattern
pub use Rattle.fd_equations.proofs.CallerLemmas as fd_equations
