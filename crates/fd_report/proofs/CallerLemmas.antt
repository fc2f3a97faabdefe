-- The lemmas that this crate hands on.
pub use Rattle.fd_report.proofs.Enclosed.{sizes}
