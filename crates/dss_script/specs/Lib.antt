pub mod Cutting
pub mod Readings
pub mod Lines
pub mod Meaning
pub mod Paths
pub mod ShapeFiles
pub mod Shapes
pub mod Script
pub mod Sessions
pub mod Fills
pub mod Bounds
pub mod Said
pub mod SaidLaws
pub mod SaidRoom
pub use Rattle.dss_model.specs.fd_arith as fd_arith
pub use Rattle.fd_outside.specs as fd_outside
pub use Rattle.fd_shape.specs.fd_decimal as fd_decimal
pub use Rattle.dss_model.specs as dss_model
