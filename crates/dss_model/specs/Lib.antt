pub mod Answers
pub mod Causes
pub mod Changes
pub mod Names
pub mod Classes
pub mod SameElement
pub mod Ranges
pub mod Defaults
pub mod Element
pub mod InRange
pub mod Sound
pub mod LoadKinds
pub use Rattle.fd_arith.specs.fd_exact as fd_exact
pub use Rattle.fd_arith.specs as fd_arith
pub use Rattle.dss_lexer.specs as dss_lexer
