pub mod Limits
pub mod Moves
pub mod Pieces
pub mod Writer
pub mod WrittenAt
pub mod inner
