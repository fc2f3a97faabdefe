pub mod Moves
pub mod States
pub mod Stages
pub use Rattle.fd_inject.specs as fd_inject
pub use Rattle.fd_substitution.specs as fd_substitution
pub use Rattle.fd_cert.specs as fd_cert
