pub mod Words
pub mod Elements
pub mod Lines
pub mod Paths
pub mod Steps
pub mod Entering
pub mod Filling
pub mod Commands
pub mod Rooms
pub mod Prices
pub mod Few
mod SaidSame
mod SaidRooms
