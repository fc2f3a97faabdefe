pub mod Windings
pub mod Leakage
pub mod Transformer
pub mod Laws
pub use Rattle.fd_system.specs as fd_system
