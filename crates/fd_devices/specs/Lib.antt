pub mod Devices
pub mod Data
pub mod Kinds
pub mod Settings
pub mod Scripted
pub mod Sound
pub mod Building
pub mod Standing
pub mod Places
pub mod Reach
pub mod Kept
pub use Rattle.dss_layout.specs.fd_exact as fd_exact
pub use Rattle.dss_layout.specs.fd_arith as fd_arith
pub use Rattle.dss_layout.specs.dss_model as dss_model
pub use Rattle.dss_circuit.specs as dss_circuit
pub use Rattle.dss_layout.specs as dss_layout
pub use Rattle.fd_xfmr.specs.fd_system as fd_system
pub use Rattle.fd_elements.specs.fd_source as fd_source
pub use Rattle.fd_xfmr.specs as fd_xfmr
pub use Rattle.fd_pattern.specs as fd_pattern
pub use Rattle.fd_elements.specs as fd_elements
