pub mod Faults
pub mod Ranges
pub mod Updates
pub mod Procedure
pub mod Kept
pub use Rattle.fd_equations.specs.fd_exact as fd_exact
pub use Rattle.fd_inverse.specs.fd_arith as fd_arith
pub use Rattle.fd_equations.specs.fd_mat as fd_mat
pub use Rattle.fd_equations.specs.fd_pattern as fd_pattern
pub use Rattle.fd_equations.specs as fd_equations
pub use Rattle.fd_inverse.specs as fd_inverse
