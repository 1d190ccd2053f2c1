-- The theorems of the slip, and the laws that its functions' proofs cite.
pub mod Names
pub mod Parts
pub mod Locals
pub mod Asking
pub mod Zones
pub mod Stamps
pub mod Length
pub mod Clocks
pub mod Numbered
pub mod Making
pub mod Shortness
pub mod Theorems
pub mod Worked
