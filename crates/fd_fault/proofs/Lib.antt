pub mod Dropping
pub mod Standing
pub mod Passed
pub mod Naming
pub mod Freed
pub mod Within
pub mod CallerLemmas
