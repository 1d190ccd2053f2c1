pub mod Cases
pub mod Walks
