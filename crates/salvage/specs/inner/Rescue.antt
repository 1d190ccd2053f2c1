pub mod Texts
pub mod Told
pub mod Turns
pub mod Whole
