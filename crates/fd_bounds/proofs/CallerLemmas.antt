-- Lemmas that callers cite.
pub use Rattle.fd_substitution.proofs.CallerLemmas.fd_derived as fd_derived
pub use Rattle.fd_substitution.proofs.CallerLemmas.fd_triangles as fd_triangles
pub use Rattle.fd_substitution.proofs.CallerLemmas as fd_substitution
