pub mod Names
pub mod Joining
mod Picking
mod Naming
mod Describing
pub mod Replies
