mod Capacitor
mod Bounds
pub mod CallerLemmas
