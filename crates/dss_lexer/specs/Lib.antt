pub mod Answers
pub mod Texts
pub mod Number
pub mod Line
pub mod Arrays
pub mod Postfix
pub use Rattle.fd_exact.specs as fd_exact
