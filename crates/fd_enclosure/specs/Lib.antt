pub mod Boxes
pub mod Radii
pub mod Bounds
pub mod Sound
pub mod Encloses
pub mod Ties
pub use Rattle.fd_equations.specs.fd_exact as fd_exact
pub use Rattle.fd_slope.specs.fd_arith as fd_arith
pub use Rattle.fd_equations.specs.fd_mat as fd_mat
pub use Rattle.fd_slope.specs.fd_system as fd_system
pub use Rattle.fd_equations.specs.fd_pattern as fd_pattern
pub use Rattle.fd_equations.specs as fd_equations
pub use Rattle.fd_slope.specs as fd_slope
pub use Rattle.fd_factors.specs as fd_factors
