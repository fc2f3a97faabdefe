pub mod Snapshot
pub mod Positions
pub mod Daily
pub mod Hours
pub mod Modest
pub use Rattle.fd_devices.specs.dss_model as dss_model
pub use Rattle.fd_devices.specs.dss_circuit as dss_circuit
pub use Rattle.fd_devices.specs.fd_system as fd_system
pub use Rattle.fd_devices.specs.fd_xfmr as fd_xfmr
pub use Rattle.fd_devices.specs.fd_pattern as fd_pattern
pub use Rattle.fd_devices.specs.fd_elements as fd_elements
pub use Rattle.fd_devices.specs as fd_devices
