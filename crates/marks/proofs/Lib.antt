-- Laws on plain values that the functions' proofs cite.
pub mod Boxes
pub mod Rounds
pub mod Spans
pub mod Groups
pub mod Parts
pub mod Stretches
pub mod ReadBack
pub mod Marked
pub mod Nearest
pub mod MarkedIsPlain
pub mod NumberedMarks
mod WorkedMarks
