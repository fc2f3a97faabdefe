pub mod Gathering
mod Judging
mod Checked
pub mod CallerLemmas
