pub mod Hours
pub mod Run
pub mod Chosen
pub mod Laws
pub mod Day
pub mod Underway
pub use Rattle.fd_settle.specs.fd_mat as fd_mat
pub use Rattle.fd_settle.specs.dss_ready as dss_ready
pub use Rattle.fd_settings.specs.fd_system as fd_system
pub use Rattle.fd_settings.specs.fd_xfmr as fd_xfmr
pub use Rattle.fd_settings.specs.fd_pattern as fd_pattern
pub use Rattle.fd_settle.specs.fd_equations as fd_equations
pub use Rattle.fd_settings.specs.fd_elements as fd_elements
pub use Rattle.fd_settings.specs.fd_devices as fd_devices
pub use Rattle.fd_settle.specs.fd_network as fd_network
pub use Rattle.fd_settings.specs as fd_settings
pub use Rattle.fd_settle.specs.fd_inverse as fd_inverse
pub use Rattle.fd_settle.specs.fd_inject as fd_inject
pub use Rattle.fd_settle.specs.fd_enclosure as fd_enclosure
pub use Rattle.fd_settle.specs.fd_cert as fd_cert
pub use Rattle.fd_settle.specs.fd_queue as fd_queue
pub use Rattle.fd_settle.specs.fd_sample as fd_sample
pub use Rattle.fd_settle.specs as fd_settle
