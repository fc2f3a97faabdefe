-- Lemmas that callers cite.
pub use Rattle.fd_derived.proofs.CallerLemmas as fd_derived
pub use Rattle.fd_triangles.proofs.Losing.{less_none, whole_here}
