pub mod Growing
pub mod Offered
pub mod Joining
pub mod Adding
pub mod inner
