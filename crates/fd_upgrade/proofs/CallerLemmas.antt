-- Lemmas that callers cite.
pub use Rattle.fd_upgrade.proofs.History.{one_upgrade, upgrade_answers, upgrade_tells}
