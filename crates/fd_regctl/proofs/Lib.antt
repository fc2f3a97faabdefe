pub mod Regulators
pub mod Edges
pub mod SettingSteps
pub mod Taps
pub mod CallerLemmas
