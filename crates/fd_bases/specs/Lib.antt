pub mod Nominals
pub mod Nearest
pub mod Walk
pub mod Bases
pub mod WalkLaws
pub mod Due
pub use Rattle.dss_layout.specs.dss_model as dss_model
pub use Rattle.dss_circuit.specs as dss_circuit
pub use Rattle.dss_layout.specs as dss_layout
