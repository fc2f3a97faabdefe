pub mod Fitted
pub mod Only
pub mod Solved
pub mod Ended
pub mod Paged
pub mod Linear
pub mod Studying
pub mod CallerLemmas
