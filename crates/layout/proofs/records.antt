pub mod Stepping
pub mod Summing
