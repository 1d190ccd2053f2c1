pub mod Text
pub mod Number
pub mod Nearest
pub mod Clock
pub mod Request
pub mod Told
pub mod Only
