mod Line
mod Bounds
pub mod CallerLemmas
