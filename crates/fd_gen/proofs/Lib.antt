mod Sections
pub mod CallerLemmas
