-- Laws on plain values that the functions' proofs cite.
pub mod Shared
pub mod Itemed
pub mod Keeping
pub mod Offsets
pub mod Worded
pub mod Remoted
pub mod Begun
pub mod Beginning
