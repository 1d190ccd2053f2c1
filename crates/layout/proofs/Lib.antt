-- What callers of this crate go by.
pub mod Sizes
pub mod Steps
pub mod Sorts
pub mod Orders
pub mod Everyone
mod Worked
