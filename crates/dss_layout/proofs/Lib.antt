pub mod Adding
pub mod Placing
pub mod CallerLemmas
pub mod Among
pub mod Phases
