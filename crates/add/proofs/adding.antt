-- Laws on plain values that the functions' proofs cite.
pub mod Adding
pub mod Asking
