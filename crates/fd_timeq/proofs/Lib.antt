mod Timing
mod Runs
mod Lasting
