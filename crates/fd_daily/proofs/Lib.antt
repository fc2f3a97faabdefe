mod Runs
mod Banks
mod NextHours
mod Starting
mod Behind
mod Settles
pub mod CallerLemmas
