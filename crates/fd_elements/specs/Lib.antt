pub mod Connections
pub mod Volts
pub mod Lines
pub mod Sources
pub mod Powers
pub mod Loads
pub mod Laws
pub use Rattle.fd_line.specs as fd_line
pub use Rattle.fd_source.specs as fd_source
pub use Rattle.fd_load.specs as fd_load
