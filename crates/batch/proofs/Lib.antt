-- Many fixes, as one by one, through an atlas or without one, and the laws that the functions' proofs cite.
pub mod Few
pub mod Counts
pub mod Stamping
pub mod Window
pub mod Opening
pub mod ManyIsOneByOne
pub mod SameMany
pub mod NumberedMany
pub mod AskedMany
mod WorkedMany
pub mod MoreRoom
pub mod ManyIsPlain
