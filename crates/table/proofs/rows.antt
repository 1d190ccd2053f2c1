mod Signs
pub mod Entering
