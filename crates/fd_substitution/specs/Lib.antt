pub mod Sums
pub mod Filling
pub mod Substitution
pub use Rattle.fd_triangles.specs.fd_derived as fd_derived
pub use Rattle.fd_triangles.specs as fd_triangles
