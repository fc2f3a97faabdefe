mod Blocks
mod Walks
mod Told
mod Kept
mod Judged
mod Way
mod Accepted
mod Commands
pub mod CallerLemmas
