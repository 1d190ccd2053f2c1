-- Laws on plain values that the functions' proofs cite.
pub mod Measured
pub mod Noting
pub mod Joining
