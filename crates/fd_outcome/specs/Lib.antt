pub mod Statuses
pub mod Settles
pub mod Events
pub mod Work
pub mod History
pub mod Pages
pub mod Certificates
pub mod Calls
pub mod Done
pub mod Runs
pub mod Laws
pub mod Way
pub mod Behind
pub mod Parts
pub mod Untold
pub use Rattle.fd_certfile.specs.fd_outside as fd_outside
pub use Rattle.fd_report.specs.fd_decimal as fd_decimal
pub use Rattle.fd_report.specs.dss_ready as dss_ready
pub use Rattle.fd_report.specs.dss_script as dss_script
pub use Rattle.fd_report.specs.fd_network as fd_network
pub use Rattle.fd_report.specs.fd_cert as fd_cert
pub use Rattle.fd_report.specs.fd_queue as fd_queue
pub use Rattle.fd_report.specs.fd_sample as fd_sample
pub use Rattle.fd_certfile.specs.fd_settle as fd_settle
pub use Rattle.fd_report.specs as fd_report
pub use Rattle.fd_certfile.specs as fd_certfile
