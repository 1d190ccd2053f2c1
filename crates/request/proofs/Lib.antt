-- What callers of this crate go by.
pub mod Texts
pub mod Numerals
pub mod Quotients
pub mod Times
pub mod Replied
pub mod Refusing
pub mod Meanings
pub mod Nearing
pub mod Theorems
mod Worked
