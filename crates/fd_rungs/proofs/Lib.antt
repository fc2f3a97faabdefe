mod Products
mod Drops
mod Walks
mod Steps
mod Sweeping
mod Rows
mod Admittances
mod Volts
