pub mod Capacitor
pub mod Laws
