-- Laws on plain values that the functions' proofs cite.
pub mod Southern
pub mod Cornered
pub mod Ordering
pub mod Tabled
