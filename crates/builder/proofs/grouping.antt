-- Laws on plain values that the functions' proofs cite.
pub mod Walks
pub mod Starting
pub mod Listed
pub mod Keyed
pub mod Finding
pub mod Twice
pub mod Meant
