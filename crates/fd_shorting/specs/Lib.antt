pub mod Pages
pub mod Fitting
pub mod Shorting
pub mod Placed
pub mod Studies
pub mod StudiedLaw
pub use Rattle.fd_fault.specs as fd_fault
