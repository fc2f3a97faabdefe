mod Placing
mod Rounds
mod Least
mod Last
mod Behind
mod Taking
mod Phases
mod Groups
mod Ordering
pub mod CallerLemmas
