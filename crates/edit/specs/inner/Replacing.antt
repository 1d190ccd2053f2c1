pub mod Exchange
pub mod Spot
pub mod Replaced
