pub mod Weaker
mod Unsolved
mod Computations
mod Solutions
mod Steadiness
mod Settled
pub mod Tests
mod Hourly
pub mod Handed
mod Parted
pub mod Beside
pub mod Weights
pub mod Scripts
pub mod Points
mod SolvedHours
mod SolvedCommands
mod Tried
pub mod CallerLemmas
