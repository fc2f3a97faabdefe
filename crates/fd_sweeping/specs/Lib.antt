pub mod Beside
pub mod Pages
pub mod Sweeping
pub mod Stepping
pub mod Agreements
pub mod SweptLaw
pub use Rattle.fd_sweep.specs as fd_sweep
