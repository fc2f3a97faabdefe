mod Digits
mod Fitting
mod Taken
