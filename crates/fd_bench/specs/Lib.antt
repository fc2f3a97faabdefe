pub mod Alone
pub mod Bench
pub mod Benching
pub use Rattle.fd_gen.specs.fd_outside as fd_outside
