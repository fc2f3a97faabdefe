-- The lemmas that this crate hands on.
pub use Rattle.fd_elements.proofs.Answers.{same_power}
pub use Rattle.fd_elements.proofs.Reactive.{by_sign, factor_least}
pub use Rattle.fd_elements.proofs.Voltages.{load_voltages, source_voltage}
pub use Rattle.fd_line.proofs.CallerLemmas as fd_line
pub use Rattle.fd_source.proofs.CallerLemmas as fd_source
pub use Rattle.fd_load.proofs.CallerLemmas as fd_load
