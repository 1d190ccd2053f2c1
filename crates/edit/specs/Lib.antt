pub mod Changing
pub mod Replacing
pub mod inner
