mod Placing
mod Noting
mod Waking
mod Passing
pub mod Settled
mod Counted
pub mod CallerLemmas
