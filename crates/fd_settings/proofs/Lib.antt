pub mod PowerOf
pub mod Daily
pub mod HourPowers
pub mod Steps
pub mod Next
pub mod HourSizes
