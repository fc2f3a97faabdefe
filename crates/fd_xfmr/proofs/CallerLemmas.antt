-- The lemmas that this crate hands on.
pub use Rattle.fd_xfmr.proofs.Transformer.{xfmr_is}
pub use Rattle.fd_system.proofs.CallerLemmas as fd_system
