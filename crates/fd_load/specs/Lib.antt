pub mod Current
pub mod Zip
pub mod Slopes
pub mod ExactSlopes
pub use Rattle.fd_system.specs.fd_exact as fd_exact
pub use Rattle.fd_system.specs.fd_arith as fd_arith
pub use Rattle.fd_system.specs as fd_system
