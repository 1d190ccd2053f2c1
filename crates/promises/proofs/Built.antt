-- What is known of a built file. Each file says what it proves. The first two are laws about border's definitions.
pub mod NearFloats
pub mod NearBorders
pub mod Strings
pub mod Header
pub mod Parts
pub mod BuiltOpens
pub mod Shared
pub mod Fields
pub mod TableRead
pub mod Drawn
pub mod Boxes
pub mod Seating
pub mod InOrder
pub mod Judged
pub mod Comes
pub mod Matches
pub mod BuiltFinds
pub mod LentPlans
pub mod ShortestFile
pub mod OnlyRoom
pub mod BuiltLookup
mod Worked
