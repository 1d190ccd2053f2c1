pub mod Noting
pub mod OneMore
