-- Lemmas that callers cite.
pub use Rattle.fd_certfile.proofs.SolvingLaws.{given_law, solving_law}
pub use Rattle.fd_certfile.proofs.Verdicts.{answers_law}
pub use Rattle.fd_certfile.proofs.Upgrading.{upgrade_law}
pub use Rattle.fd_certfile.proofs.Brought.{Comes, never_both, one_outside, one_upgrade, some_upgrade}
pub use Rattle.fd_lines.proofs.CallerLemmas.fd_outside as fd_outside
