pub mod Draws
pub mod Script
pub use Rattle.fd_outside.specs as fd_outside
