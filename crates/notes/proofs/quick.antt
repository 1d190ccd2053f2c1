-- Laws on plain values that the functions' proofs cite.
pub mod Owned
pub mod Shared
pub mod Beginning
pub mod Growing
pub mod Answers
