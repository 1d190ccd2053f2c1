-- Laws on plain values that the functions' proofs cite.
pub mod Joining
pub mod Settling
