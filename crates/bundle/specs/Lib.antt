pub mod Bundle
pub mod Told
pub mod First
pub mod Spelled
pub mod Named
