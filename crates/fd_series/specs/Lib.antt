pub mod Scripted
pub use Rattle.fd_elements.specs as fd_elements
pub use Rattle.fd_rungs.specs.dss_model as dss_model
pub use Rattle.fd_rungs.specs.fd_cap as fd_cap
pub use Rattle.fd_rungs.specs.fd_xfmr as fd_xfmr
pub use Rattle.fd_rungs.specs.fd_pattern as fd_pattern
pub use Rattle.fd_rungs.specs as fd_rungs
