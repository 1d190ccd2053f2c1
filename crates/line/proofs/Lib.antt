-- What callers of this crate go by.
pub mod Puts
pub mod Decimals
pub mod Shown
pub mod Signs
pub mod Filled
