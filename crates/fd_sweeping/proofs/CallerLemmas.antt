-- Lemmas that callers cite.
pub use Rattle.fd_sweeping.proofs.Only.{one_ladder}
