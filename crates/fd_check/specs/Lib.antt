pub mod Checking
pub mod Comes
pub mod Comparing
pub mod Faults
pub mod Given
pub mod Hours
pub mod Laws
pub mod Commands
pub use Rattle.dss_commands.specs.fd_exact as fd_exact
pub use Rattle.fd_daily.specs.fd_mat as fd_mat
pub use Rattle.fd_certfile.specs.fd_outside as fd_outside
pub use Rattle.dss_commands.specs.dss_model as dss_model
pub use Rattle.dss_commands.specs.dss_circuit as dss_circuit
pub use Rattle.dss_commands.specs as dss_commands
pub use Rattle.fd_daily.specs.dss_ready as dss_ready
pub use Rattle.fd_daily.specs.fd_system as fd_system
pub use Rattle.fd_daily.specs.fd_pattern as fd_pattern
pub use Rattle.fd_daily.specs.fd_equations as fd_equations
pub use Rattle.fd_daily.specs.fd_elements as fd_elements
pub use Rattle.fd_daily.specs.fd_settings as fd_settings
pub use Rattle.fd_daily.specs.fd_inject as fd_inject
pub use Rattle.fd_daily.specs.fd_enclosure as fd_enclosure
pub use Rattle.fd_daily.specs.fd_cert as fd_cert
pub use Rattle.fd_daily.specs.fd_queue as fd_queue
pub use Rattle.fd_daily.specs.fd_sample as fd_sample
pub use Rattle.fd_daily.specs.fd_settle as fd_settle
pub use Rattle.fd_daily.specs as fd_daily
pub use Rattle.fd_certfile.specs as fd_certfile
