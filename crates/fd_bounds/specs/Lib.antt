pub mod Rows
pub mod Defects
pub mod Passes
pub mod Results
pub mod Factors
pub use Rattle.fd_substitution.specs.fd_derived as fd_derived
pub use Rattle.fd_substitution.specs.fd_triangles as fd_triangles
pub use Rattle.fd_substitution.specs as fd_substitution
