pub mod Tests
pub mod Bounding
