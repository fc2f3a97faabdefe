pub mod Ladders
pub mod Sweep
pub use Rattle.fd_network.specs.dss_circuit as dss_circuit
pub use Rattle.fd_network.specs.dss_layout as dss_layout
pub use Rattle.fd_network.specs.dss_ready as dss_ready
pub use Rattle.fd_network.specs.fd_devices as fd_devices
pub use Rattle.fd_network.specs as fd_network
pub use Rattle.fd_ladder.specs as fd_ladder
pub use Rattle.fd_series.specs.fd_rungs as fd_rungs
