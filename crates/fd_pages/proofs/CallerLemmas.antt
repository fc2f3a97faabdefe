-- The lemmas that this crate hands on.
pub use Rattle.fd_pages.proofs.Rounds.{all_last, first_round, of_first_round}
pub use Rattle.fd_outcome.proofs.CallerLemmas.fd_outside as fd_outside
pub use Rattle.fd_outcome.proofs.CallerLemmas.fd_report as fd_report
pub use Rattle.fd_outcome.proofs.CallerLemmas.fd_certfile as fd_certfile
pub use Rattle.fd_outcome.proofs.CallerLemmas as fd_outcome
