pub mod Powers
pub mod Phasors
pub mod Equations
pub mod Laws
pub use Rattle.fd_system.specs as fd_system
