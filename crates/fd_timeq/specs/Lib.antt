pub mod Timed
pub mod Waiting
pub mod Laws
pub use Rattle.fd_daily.specs as fd_daily
