pub mod ComplexRows
pub mod Joining
pub mod Divided
pub mod LoadRows
pub mod Intervals
mod Steps
mod Drops
mod Counts
mod Volts
mod Appending
mod ThreeTimes
pub mod CallerLemmas
