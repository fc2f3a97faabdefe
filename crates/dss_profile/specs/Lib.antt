pub mod Vsource
pub mod LineConstants
pub mod Linecode
pub mod Line
pub mod Transformer
pub mod Capacitor
pub mod Load
pub mod RegControl
pub mod CapControl
pub mod Loadshape
pub mod Element
pub mod Options
pub use Rattle.dss_values.specs as dss_values
