mod Recorded
mod Blocks
mod Rounds
pub mod CallerLemmas
