-- Lemmas that callers cite.
pub use Rattle.fd_fault.proofs.Freed.{first_is, is_first}
pub use Rattle.fd_fault.proofs.Passed.{fault_passed}
pub use Rattle.fd_fault.proofs.Within.{fault_within}
pub use Rattle.dss_ready.proofs.CallerLemmas.dss_layout as dss_layout
pub use Rattle.dss_ready.proofs.CallerLemmas as dss_ready
