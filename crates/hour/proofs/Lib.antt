-- The theorems of the program, and the laws that its functions' proofs cite.
pub mod Signs
pub mod Names
pub mod Answers
pub mod Leaps
pub mod Worked
