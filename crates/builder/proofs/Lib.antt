-- Laws on plain values that the functions' proofs cite.
pub mod Sums
pub mod Puts
pub mod Bests
pub mod Steps
pub mod Masks
pub mod Inlines
pub mod Tables
pub mod Draws
pub mod Shortest
pub mod WorkedFile
pub mod Readables
pub mod Checking
pub mod Counting
pub mod Groups
pub mod Ordered
