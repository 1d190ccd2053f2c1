-- What callers of this crate go by.
pub mod Theorems
pub mod Numbered
pub mod Offsets
pub mod Versions
pub mod Worked
