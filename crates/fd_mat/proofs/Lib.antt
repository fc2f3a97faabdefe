mod Columns
mod Entries
pub mod CallerLemmas
