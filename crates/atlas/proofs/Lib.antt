-- Laws on plain values that the functions' proofs cite.
pub mod Counting
pub mod Nexts
pub mod Spanning
pub mod Standing
pub mod Writing
pub mod Courses
pub mod Beside
pub mod AtlasIsPlain
pub mod BesideIsPlain
pub mod Parting
pub mod Choosing
pub mod Behind
pub mod Owned
pub mod NumberedAtlas
pub mod Theorems
pub mod WorkedAtlas
