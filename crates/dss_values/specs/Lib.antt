pub mod Bare
pub mod Forms
pub mod Matrices
pub mod Words
pub use Rattle.dss_model.specs.dss_lexer as dss_lexer
pub use Rattle.dss_model.specs as dss_model
