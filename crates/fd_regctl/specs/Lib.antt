pub mod Regulator
pub mod Settings
pub mod RegulatorLaws
pub mod RegState
pub use Rattle.fd_queue.specs.fd_arith as fd_arith
pub use Rattle.fd_queue.specs as fd_queue
