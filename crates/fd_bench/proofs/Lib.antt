pub mod Alone
pub mod Benched
pub mod CallerLemmas
