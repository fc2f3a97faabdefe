pub mod Blocks
pub mod Views
pub mod Written
pub mod Held
pub mod Laws
pub mod Examples
pub use Rattle.fd_lines.specs as fd_lines
pub use Rattle.fd_derived.specs as fd_derived
