pub mod Complex
pub mod Contributions
pub mod Equations
pub mod Terminals
pub mod Series
pub mod Loads
pub mod System
pub mod Stamps
pub mod Meets
pub mod Residual
pub mod Laws
pub use Rattle.fd_arith.specs.fd_exact as fd_exact
pub use Rattle.fd_arith.specs as fd_arith
