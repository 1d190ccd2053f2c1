pub mod Held
pub mod Summed
pub mod inner
