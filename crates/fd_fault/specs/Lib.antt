pub mod Kinds
pub mod ShortNames
pub mod Naming
pub mod FaultCircuit
pub mod FaultLaws
pub use Rattle.dss_ready.specs.dss_model as dss_model
pub use Rattle.dss_ready.specs.dss_circuit as dss_circuit
pub use Rattle.dss_ready.specs.dss_layout as dss_layout
pub use Rattle.dss_ready.specs as dss_ready
