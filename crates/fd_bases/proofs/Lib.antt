mod Basing
mod Chosen
mod Walking
mod Idle
mod Noting
mod Worklist
pub mod Settled
