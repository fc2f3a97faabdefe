-- The lemmas that this crate hands on.
pub use Rattle.fd_outside.proofs.CallerLemmas as fd_outside
pub use Rattle.fd_outside.proofs.CallerLemmas as fd_outside
