pub mod Entries
pub mod Equations
pub mod Rechecks
pub mod Boxed
pub use Rattle.fd_cert.specs as fd_cert
pub use Rattle.fd_bounds.specs as fd_bounds
pub use Rattle.fd_bounds.specs.fd_triangles as fd_triangles
