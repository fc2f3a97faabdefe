pub mod Bank
pub mod BankLaws
pub mod CapState
