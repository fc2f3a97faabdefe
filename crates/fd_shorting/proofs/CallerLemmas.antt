-- Lemmas that callers cite.
pub use Rattle.fd_shorting.proofs.Only.{one_fault}
