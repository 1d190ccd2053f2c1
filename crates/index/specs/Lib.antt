pub mod Tiles
pub mod Table
pub mod Index
pub mod Complete
pub mod Tied
pub mod Through
pub mod Own
pub mod inner
