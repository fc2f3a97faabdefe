pub mod Totals
pub mod Line
pub mod Laws
pub use Rattle.fd_system.specs as fd_system
