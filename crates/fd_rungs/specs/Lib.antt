pub mod Numbers
pub mod Branches
pub mod Passes
pub mod Sweeps
pub mod Bounds
pub mod Elements
pub use Rattle.fd_pattern.specs.fd_arith as fd_arith
pub use Rattle.fd_pattern.specs.fd_system as fd_system
pub use Rattle.fd_pattern.specs as fd_pattern
pub use Rattle.fd_line.specs as fd_line
pub use Rattle.fd_source.specs as fd_source
pub use Rattle.fd_xfmr.specs as fd_xfmr
pub use Rattle.fd_cap.specs as fd_cap
pub use Rattle.dss_model.specs as dss_model
