-- Lemmas that callers cite.
pub use Rattle.fd_factors.proofs.Places.{row_beyond}
