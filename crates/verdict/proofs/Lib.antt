-- Laws on plain values that the functions' proofs cite.
pub mod Compared
pub mod Checks
pub mod Squares
pub mod Kept
pub mod Halts
pub mod Gliding
pub mod CutDifference
pub mod Beyond
pub mod FarFields
pub mod WorkedGliding
pub mod Verdicts
pub mod Replies
pub mod Unasked
pub mod NearerStart
pub mod OutsideBox
pub mod Winds
pub mod Finite
pub mod AfarField
pub mod AfarBox
pub mod Stretch
mod WorkedStretch
pub mod Strict
pub mod LeftBound
pub mod Numbered
