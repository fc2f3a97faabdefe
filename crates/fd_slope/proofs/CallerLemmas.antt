-- The lemmas that this crate hands on.
pub use Rattle.fd_load.proofs.CallerLemmas.fd_system as fd_system
pub use Rattle.fd_load.proofs.CallerLemmas.fd_system as fd_system
