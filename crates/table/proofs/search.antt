mod Searching
pub mod SoFar
pub mod Turns
pub mod Stopping
