pub mod Assembled
pub mod Built
pub mod Collecting
pub mod Faults
pub mod Former
pub mod Keeping
pub mod Laws
pub mod Places
pub mod Stamps
pub use Rattle.fd_equations.specs.fd_exact as fd_exact
pub use Rattle.dss_ready.specs.dss_model as dss_model
pub use Rattle.dss_ready.specs.dss_circuit as dss_circuit
pub use Rattle.dss_ready.specs.dss_layout as dss_layout
pub use Rattle.dss_ready.specs as dss_ready
pub use Rattle.fd_devices.specs.fd_system as fd_system
pub use Rattle.fd_devices.specs.fd_xfmr as fd_xfmr
pub use Rattle.fd_equations.specs.fd_pattern as fd_pattern
pub use Rattle.fd_equations.specs as fd_equations
pub use Rattle.fd_devices.specs.fd_elements as fd_elements
pub use Rattle.fd_devices.specs as fd_devices
