pub mod Entries
pub mod Named
pub mod WellFormed
pub mod Dropped
pub mod Copied
pub mod CallerLemmas
