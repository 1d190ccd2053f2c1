-- Laws on plain values that the functions' proofs cite.
pub mod Measured
pub mod Wider
