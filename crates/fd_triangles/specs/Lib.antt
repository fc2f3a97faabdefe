pub mod Rows
pub mod Columns
pub mod Elimination
pub mod Steps
pub mod Factors
pub use Rattle.fd_derived.specs as fd_derived
