pub mod Radii
pub mod Boxes
pub mod Changes
pub use Rattle.fd_load.specs.fd_arith as fd_arith
pub use Rattle.fd_load.specs.fd_system as fd_system
pub use Rattle.fd_load.specs as fd_load
