pub mod Values
pub mod Nearest
pub mod Each
pub mod Stacks
pub mod SameText
pub mod CallerLemmas
pub mod AsciiNumbers
mod Scaled
mod PartWords
