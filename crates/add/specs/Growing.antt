pub mod Notes
pub mod Joins
