mod Ready
mod Placing
mod Laddered
mod Tapping
mod Ends
