-- What a caller needs to know of the steps of a command, and of no circuit.
pub use Rattle.dss_commands.proofs.Limits.{none_within}
pub use Rattle.dss_commands.proofs.Steps.{through}
pub use Rattle.dss_circuit.proofs.CallerLemmas.dss_lexer as dss_lexer
