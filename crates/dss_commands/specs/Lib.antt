pub mod Keys
pub mod Commands
pub mod Laws
pub use Rattle.dss_circuit.specs.fd_exact as fd_exact
pub use Rattle.dss_circuit.specs.dss_lexer as dss_lexer
pub use Rattle.dss_circuit.specs.dss_model as dss_model
pub use Rattle.dss_profile.specs as dss_profile
pub use Rattle.dss_circuit.specs as dss_circuit
