-- Lemmas that callers cite.
pub use Rattle.fd_inject.proofs.Iterates.{constants_long, length-nominal, length-started, residual_long}
pub use Rattle.fd_inject.proofs.Limited.{unless_always, unless_more}
pub use Rattle.fd_inject.proofs.Products.{length-moved, moved_is, point_from, point_small, small_more, small_none}
pub use Rattle.fd_equations.proofs.CallerLemmas as fd_equations
pub use Rattle.fd_inverse.proofs.CallerLemmas as fd_inverse
