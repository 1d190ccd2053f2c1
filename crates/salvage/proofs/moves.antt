-- What callers of this crate go by, and laws on plain values that the functions' proofs cite.
pub mod Capping
pub mod Ends
pub mod Forms
pub mod Standing
pub mod Turning
pub mod Packed
pub mod Plain
pub mod Again
mod Worked
