-- Lemmas that callers cite.
pub use Rattle.fd_derived.proofs.Allowed.{totals_more}
pub use Rattle.fd_derived.proofs.Caps.{both_capped, capped_start, weigh_step, weighted_capped}
pub use Rattle.fd_derived.proofs.Drained.{but_one, supported_less, supported_nothing, supported_start}
pub use Rattle.fd_derived.proofs.Loads.{sizes}
pub use Rattle.fd_derived.proofs.Rows.{row_read, row_there}
