pub mod Weighing
pub mod Weights
