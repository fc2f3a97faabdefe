pub mod Rounded
pub mod PartLoads
pub mod Amounts
pub mod Matrices
pub mod Holding
pub mod Walks
pub mod WalkLaws
pub mod Slopes
pub mod Weights
pub mod Copies
pub mod Enclosure
pub use Rattle.fd_mat.specs.fd_exact as fd_exact
pub use Rattle.fd_mat.specs as fd_mat
pub use Rattle.fd_pattern.specs.fd_system as fd_system
pub use Rattle.fd_pattern.specs as fd_pattern
