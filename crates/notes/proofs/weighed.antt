-- A new record, value by value.
pub mod Added
pub mod Counted
pub mod Found
pub mod Lengths
pub mod Repeated
pub mod Valued
pub mod Weighed
