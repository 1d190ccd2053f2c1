-- Laws on plain values that the functions' proofs cite, and those of the chains that others need.
pub mod Lasts
pub mod Entering
pub mod Walking
