pub mod Balls
pub mod Phasors
pub mod Regulators
pub mod Banks
pub mod Probes
pub mod Scripted
pub mod Circuits
pub mod Samples
pub mod Roots
pub mod Decided
pub use Rattle.fd_network.specs.dss_model as dss_model
pub use Rattle.fd_network.specs.dss_circuit as dss_circuit
pub use Rattle.fd_network.specs.dss_layout as dss_layout
pub use Rattle.fd_network.specs.dss_ready as dss_ready
pub use Rattle.fd_network.specs.fd_xfmr as fd_xfmr
pub use Rattle.fd_network.specs.fd_equations as fd_equations
pub use Rattle.fd_network.specs.fd_elements as fd_elements
pub use Rattle.fd_network.specs.fd_devices as fd_devices
pub use Rattle.fd_network.specs as fd_network
pub use Rattle.fd_regctl.specs.fd_queue as fd_queue
pub use Rattle.fd_regctl.specs as fd_regctl
pub use Rattle.fd_capctl.specs as fd_capctl
