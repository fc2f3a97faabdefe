mod Lists
mod Products
mod Numbers
mod Transformer
pub mod CallerLemmas
