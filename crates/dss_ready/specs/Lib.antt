pub mod Mentions
pub mod Noted
pub mod Lookups
pub mod Ranges
pub mod Counts
pub mod Support
pub mod Walk
pub mod Feeding
pub mod Labels
pub mod Ready
pub mod Passed
pub use Rattle.dss_circuit.specs.fd_arith as fd_arith
pub use Rattle.dss_circuit.specs.dss_lexer as dss_lexer
pub use Rattle.dss_circuit.specs.dss_model as dss_model
pub use Rattle.dss_circuit.specs as dss_circuit
pub use Rattle.dss_layout.specs as dss_layout
