pub mod Limits
pub mod Numbers
pub mod Nodes
pub mod Terminals
pub mod Layout
pub mod UnknownNames
pub mod Among
pub use Rattle.dss_model.specs.fd_exact as fd_exact
pub use Rattle.dss_model.specs.fd_arith as fd_arith
pub use Rattle.dss_model.specs.dss_lexer as dss_lexer
pub use Rattle.dss_model.specs as dss_model
