pub mod Numbers
mod Columns
mod Readings
mod ReadsBack
mod Records
