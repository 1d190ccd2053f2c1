pub mod Begun
pub mod Emptied
pub mod Dropped
