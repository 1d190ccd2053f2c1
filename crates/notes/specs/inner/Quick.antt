pub mod Placed
pub mod Steps
