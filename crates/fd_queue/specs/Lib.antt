pub mod Quantities
pub mod Decisions
pub mod DecisionLaws
pub mod Verdicts
pub mod Queue
pub mod Controls
pub mod Machine
pub mod MachineLaws
pub use Rattle.fd_arith.specs.fd_exact as fd_exact
pub use Rattle.fd_arith.specs as fd_arith
