pub mod Numbers
pub mod Lines
pub mod Texts
pub mod Numbered
pub mod Laws
pub mod Numerals
pub mod Cuts
pub mod WordLines
pub mod FewDigits
pub use Rattle.fd_outside.specs as fd_outside
