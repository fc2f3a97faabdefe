pub mod Run
pub mod Solves
pub mod Printed
pub mod Accepted
pub mod Waiting
pub mod Steady
pub mod Meaning
pub mod Rounds
pub mod Printing
pub mod Sentences
pub mod Promise
pub mod Told
pub mod Written
pub use Rattle.fd_bench.specs.fd_outside as fd_outside
pub use Rattle.fd_words.specs as fd_words
pub use Rattle.fd_checking.specs.fd_outcome as fd_outcome
