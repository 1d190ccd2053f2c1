pub mod Cut
pub mod Sum
pub mod Dropped
