pub mod Checks
pub mod Gathered
pub mod Judged
pub use Rattle.fd_check.specs.fd_exact as fd_exact
pub use Rattle.fd_check.specs.fd_mat as fd_mat
pub use Rattle.fd_check.specs.dss_model as dss_model
pub use Rattle.fd_check.specs.dss_circuit as dss_circuit
pub use Rattle.fd_check.specs.dss_commands as dss_commands
pub use Rattle.fd_solving.specs.dss_layout as dss_layout
pub use Rattle.fd_check.specs.dss_ready as dss_ready
pub use Rattle.fd_solving.specs.dss_script as dss_script
pub use Rattle.fd_check.specs.fd_system as fd_system
pub use Rattle.fd_check.specs.fd_pattern as fd_pattern
pub use Rattle.fd_check.specs.fd_equations as fd_equations
pub use Rattle.fd_check.specs.fd_elements as fd_elements
pub use Rattle.fd_check.specs.fd_settings as fd_settings
pub use Rattle.fd_check.specs.fd_inject as fd_inject
pub use Rattle.fd_check.specs.fd_enclosure as fd_enclosure
pub use Rattle.fd_check.specs.fd_cert as fd_cert
pub use Rattle.fd_check.specs.fd_queue as fd_queue
pub use Rattle.fd_check.specs.fd_sample as fd_sample
pub use Rattle.fd_check.specs.fd_settle as fd_settle
pub use Rattle.fd_check.specs.fd_daily as fd_daily
pub use Rattle.fd_solving.specs.fd_bases as fd_bases
pub use Rattle.fd_solving.specs.fd_report as fd_report
pub use Rattle.fd_check.specs.fd_certfile as fd_certfile
pub use Rattle.fd_check.specs as fd_check
pub use Rattle.fd_solving.specs.fd_outcome as fd_outcome
pub use Rattle.fd_solving.specs.fd_pages as fd_pages
pub use Rattle.fd_solving.specs as fd_solving
