mod Newton
mod Rows
pub mod CallerLemmas
mod Enclosed
mod NameBytes
