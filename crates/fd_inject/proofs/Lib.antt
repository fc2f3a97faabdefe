pub mod Sizes
pub mod Limited
pub mod Products
pub mod Iterates
pub mod Inside
pub mod CallerLemmas
mod Pairs
