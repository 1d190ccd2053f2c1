-- Laws on plain values that the functions' proofs cite.
pub mod Sums
pub mod Cuts
pub mod Nothing
pub mod Firsts
pub mod Beginning
pub mod Lasts
pub mod Emptying
pub mod Shortening
pub mod Dropping
