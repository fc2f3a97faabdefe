-- Lemmas that callers cite.
pub use Rattle.fd_checking.proofs.Gathering.{one_check}
pub use Rattle.fd_checking.proofs.Judging.{check_tells}
pub use Rattle.fd_check.proofs.CallerLemmas.dss_commands as dss_commands
pub use Rattle.fd_check.proofs.CallerLemmas.fd_equations as fd_equations
pub use Rattle.fd_check.proofs.CallerLemmas.fd_enclosure as fd_enclosure
pub use Rattle.fd_solving.proofs.CallerLemmas.fd_outcome as fd_outcome
pub use Rattle.fd_solving.proofs.CallerLemmas as fd_solving
