pub mod Numbers
pub mod Shorts
pub mod Words
pub mod Lines
