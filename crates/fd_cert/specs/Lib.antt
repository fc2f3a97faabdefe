pub mod Places
pub mod Claims
pub mod Columns
pub mod Entries
pub mod Totals
pub mod Parts
pub mod Slopes
pub mod Reaches
pub mod Verdicts
pub mod Rechecks
pub mod Widening
pub mod Agreement
pub use Rattle.fd_enclosure.specs as fd_enclosure
