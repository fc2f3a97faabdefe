pub mod Hours
pub mod Rounds
pub mod Places
pub mod Bases
pub mod Lines
pub use Rattle.fd_outcome.specs.fd_outside as fd_outside
pub use Rattle.fd_outcome.specs.fd_decimal as fd_decimal
pub use Rattle.fd_bases.specs.dss_layout as dss_layout
pub use Rattle.fd_outcome.specs.dss_script as dss_script
pub use Rattle.fd_bases.specs as fd_bases
pub use Rattle.fd_outcome.specs.fd_report as fd_report
pub use Rattle.fd_outcome.specs.fd_certfile as fd_certfile
pub use Rattle.fd_outcome.specs as fd_outcome
