pub mod Lines
pub mod Names
pub mod Solutions
pub mod Sizes
pub mod Enclosed
pub mod Records
pub mod Faults
pub mod Ladders
pub mod Texts
pub mod Bases
pub mod Controls
pub mod Accepted
pub mod Shorts
pub use Rattle.dss_script.specs.fd_decimal as fd_decimal
pub use Rattle.dss_script.specs.dss_model as dss_model
pub use Rattle.fd_sample.specs.dss_circuit as dss_circuit
pub use Rattle.fd_sample.specs.dss_layout as dss_layout
pub use Rattle.fd_sample.specs.dss_ready as dss_ready
pub use Rattle.dss_script.specs as dss_script
pub use Rattle.fd_sample.specs.fd_equations as fd_equations
pub use Rattle.fd_sample.specs.fd_network as fd_network
pub use Rattle.fd_cert.specs.fd_enclosure as fd_enclosure
pub use Rattle.fd_cert.specs as fd_cert
pub use Rattle.fd_sample.specs.fd_queue as fd_queue
pub use Rattle.fd_sample.specs as fd_sample
