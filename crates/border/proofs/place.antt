pub mod Whole
pub mod Ranged
