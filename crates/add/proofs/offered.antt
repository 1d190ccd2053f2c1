-- Laws on plain values that the functions' proofs cite.
pub mod Offering
pub mod Placing
