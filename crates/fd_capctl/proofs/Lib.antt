pub mod Banks
pub mod BankEdges
pub mod Aways
pub mod CallerLemmas
