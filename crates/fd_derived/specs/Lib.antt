pub mod Rows
pub mod Sums
pub mod Marks
pub mod Refusals
pub mod Accepted
pub use Rattle.fd_factors.specs as fd_factors
