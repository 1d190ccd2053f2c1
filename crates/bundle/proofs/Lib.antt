-- What callers of this crate go by.
pub mod Entries
pub mod Theorems
mod Worked
