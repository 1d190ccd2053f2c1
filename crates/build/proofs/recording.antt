-- Laws on plain values that the functions' proofs cite.
pub mod Laying
pub mod Fewer
pub mod Spreading
pub mod Recording
pub mod Written
