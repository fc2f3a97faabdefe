pub mod Compare
pub mod Places
pub mod Product
pub mod Enclosing
pub mod CallerLemmas
