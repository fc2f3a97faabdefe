-- The lemmas that this crate hands on.
pub use Rattle.fd_inverse.proofs.EachBelow.{each_below-at}
pub use Rattle.fd_inverse.proofs.Inverses.{fault_column, inverse_size, inverse_small}
