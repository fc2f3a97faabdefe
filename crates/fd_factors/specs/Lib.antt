pub mod Comparison
pub mod Factors
pub mod Enclosure
pub use Rattle.fd_exact.specs as fd_exact
