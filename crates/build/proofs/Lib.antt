-- Laws on plain values that the functions' proofs cite, and what the promise of `build` permits.
pub mod Planned
pub mod Valued
pub mod Slices
pub mod Filled
pub mod Rooms
pub mod Nothing
pub mod Puts
pub mod Filing
pub mod Ending
pub mod Needed
pub mod Moving
pub mod Numbered
pub mod Same
