pub mod Agreeing
pub mod Words
pub mod Matches
pub mod MarkedAlike
pub mod Merged
pub mod TableRows
pub mod Beside
pub mod SearchEnds
pub mod Unstopped
pub mod Turns
pub mod InOrder
mod WorkedTable
pub mod Joining
pub mod Halves
pub mod StrictRows
pub mod SixNumbers
