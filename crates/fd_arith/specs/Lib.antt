pub mod Limits
pub mod Interval
pub mod Fix
pub mod Wide
pub mod Laws
pub mod Capping
pub mod Enclosing
pub mod Products
pub mod Quotients
pub mod Roots
pub mod Nearest
pub mod ShortCircuit
pub mod LoadModels
pub use Rattle.fd_exact.specs as fd_exact
