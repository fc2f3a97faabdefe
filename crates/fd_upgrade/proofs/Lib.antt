pub mod History
pub mod Asking
pub mod CallerLemmas
