pub mod Steps
pub mod KeyNames
pub mod Named
pub mod Pairs
pub mod CallerLemmas
pub mod Limits
