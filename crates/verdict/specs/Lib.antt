pub mod Step
pub mod Edge
pub mod Winding
pub mod Distance
pub mod Verdict
pub mod Stretch
pub mod Far
pub mod inner
