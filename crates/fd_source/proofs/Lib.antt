mod Squares
mod Greatest
mod Rows
mod Impedances
mod Codes
mod Sizes
pub mod CallerLemmas
