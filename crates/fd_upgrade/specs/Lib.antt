pub mod Upgrading
pub mod Answering
