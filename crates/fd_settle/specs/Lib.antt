pub mod Numbers
pub mod Sampling
pub mod Settle
pub mod Chosen
pub mod Kept
pub mod KeptRounds
pub mod Laws
pub mod Plant
pub mod Rounds
pub mod Journals
pub mod Calls
pub mod Refused
pub mod Contract
pub mod Compute
pub mod Start
pub mod Controls
pub mod Computed
pub mod KeptStates
pub mod Acting
pub use Rattle.fd_inject.specs.fd_exact as fd_exact
pub use Rattle.fd_inject.specs.fd_mat as fd_mat
pub use Rattle.fd_sample.specs.dss_ready as dss_ready
pub use Rattle.fd_inject.specs.fd_pattern as fd_pattern
pub use Rattle.fd_inject.specs.fd_equations as fd_equations
pub use Rattle.fd_sample.specs.fd_network as fd_network
pub use Rattle.fd_inject.specs.fd_inverse as fd_inverse
pub use Rattle.fd_inject.specs as fd_inject
pub use Rattle.fd_cert.specs.fd_enclosure as fd_enclosure
pub use Rattle.fd_cert.specs as fd_cert
pub use Rattle.fd_sample.specs.fd_queue as fd_queue
pub use Rattle.fd_sample.specs.fd_capctl as fd_capctl
pub use Rattle.fd_sample.specs as fd_sample
