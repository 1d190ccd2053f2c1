pub mod Found
pub mod Local
