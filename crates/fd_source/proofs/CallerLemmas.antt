-- The lemmas that this crate hands on.
pub use Rattle.fd_source.proofs.Rows.{source_is}
pub use Rattle.fd_source.proofs.Greatest.{greatest_holds, greatest_most}
