pub mod Away
pub mod Bounds
pub mod CallerLemmas
pub mod Drawn
mod WithinLimit
pub mod Nearest
pub mod Sizes
pub mod VoltageSizes
