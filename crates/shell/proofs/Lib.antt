-- The laws that the proofs cite, those of a whole input (Whole), and the theorems.
pub mod Pieces
pub mod Saying
pub mod Answering
pub mod Turns
pub mod Streams
pub mod Ends
pub mod Whole
pub mod Came
pub mod Theorems
pub mod Worked
