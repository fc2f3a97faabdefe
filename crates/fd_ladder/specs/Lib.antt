pub mod Sections
pub mod Radial
pub mod RadialLaws
pub mod Due
pub use Rattle.dss_layout.specs.dss_model as dss_model
pub use Rattle.dss_circuit.specs as dss_circuit
pub use Rattle.dss_layout.specs as dss_layout
