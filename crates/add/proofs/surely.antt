-- Laws on plain lists and numbers that the functions' proofs cite.
pub mod Steps
pub mod Marked
pub mod Joined
