-- The lemmas that this crate hands on.
pub use Rattle.fd_line.proofs.Line.{line_is}
pub use Rattle.fd_system.proofs.CallerLemmas as fd_system
