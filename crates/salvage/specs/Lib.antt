pub mod Kept
pub mod File
pub mod Salvage
pub mod Promises
pub mod Moves
pub mod inner
