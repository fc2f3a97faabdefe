pub mod Crossed
pub mod InTurn
