pub mod Forming
pub mod Tabling
