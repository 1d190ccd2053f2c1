pub mod Opens
pub mod Seats
pub mod Finds
pub mod Laid
