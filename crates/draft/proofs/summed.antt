-- Laws on plain values that the functions' proofs cite.
pub mod Spreads
pub mod Souths
pub mod Taken
pub mod Fitting
pub mod Afresh
pub mod Reached
pub mod Wholes
pub mod Filed
pub mod Finishing
pub mod Resting
