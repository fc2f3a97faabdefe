pub mod Steps
pub mod Solving
pub mod Commands
pub mod Boxes
pub mod Headline
pub mod Answered
pub mod Weights
pub mod Endings
pub mod Printing
pub mod Tallies
pub mod Scripts
pub mod SolvedLaw
pub use Rattle.fd_pages.specs.fd_outside as fd_outside
pub use Rattle.fd_pages.specs.fd_decimal as fd_decimal
pub use Rattle.dss_commands.specs.fd_exact as fd_exact
pub use Rattle.dss_commands.specs.dss_model as dss_model
pub use Rattle.dss_commands.specs.dss_circuit as dss_circuit
pub use Rattle.dss_commands.specs as dss_commands
pub use Rattle.fd_pages.specs.dss_layout as dss_layout
pub use Rattle.fd_pages.specs.dss_script as dss_script
pub use Rattle.fd_daily.specs.dss_ready as dss_ready
pub use Rattle.fd_daily.specs.fd_system as fd_system
pub use Rattle.fd_daily.specs.fd_xfmr as fd_xfmr
pub use Rattle.fd_daily.specs.fd_pattern as fd_pattern
pub use Rattle.fd_daily.specs.fd_equations as fd_equations
pub use Rattle.fd_daily.specs.fd_devices as fd_devices
pub use Rattle.fd_daily.specs.fd_network as fd_network
pub use Rattle.fd_daily.specs.fd_settings as fd_settings
pub use Rattle.fd_daily.specs.fd_enclosure as fd_enclosure
pub use Rattle.fd_daily.specs.fd_cert as fd_cert
pub use Rattle.fd_daily.specs.fd_queue as fd_queue
pub use Rattle.fd_daily.specs.fd_sample as fd_sample
pub use Rattle.fd_daily.specs.fd_settle as fd_settle
pub use Rattle.fd_daily.specs as fd_daily
pub use Rattle.fd_pages.specs.fd_bases as fd_bases
pub use Rattle.fd_pages.specs.fd_report as fd_report
pub use Rattle.fd_pages.specs.fd_certfile as fd_certfile
pub use Rattle.fd_pages.specs.fd_outcome as fd_outcome
pub use Rattle.fd_pages.specs as fd_pages
