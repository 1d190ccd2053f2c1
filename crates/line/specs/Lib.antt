pub mod Bytes
pub mod Put
pub mod Clock
