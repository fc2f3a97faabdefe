pub mod Sizes
pub mod Fronts
pub mod Filling
pub mod Rows
pub mod CallerLemmas
