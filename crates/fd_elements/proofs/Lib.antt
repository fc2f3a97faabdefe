pub mod CallerLemmas
pub mod Given
pub mod Reactive
pub mod Answers
pub mod Products
pub mod Shares
pub mod Phases
pub mod Voltages
