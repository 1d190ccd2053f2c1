pub mod Cutting
pub mod Places
pub mod Rounding
pub mod Squares
pub mod Smallest
pub mod NearestRoot
