pub mod Terminals
pub mod Coefficients
pub mod Views
pub mod Conditions
pub mod Patterns
pub mod PatternPlaces
pub use Rattle.fd_load.specs.fd_arith as fd_arith
pub use Rattle.fd_load.specs.fd_system as fd_system
pub use Rattle.fd_load.specs as fd_load
