pub mod Opens
pub mod Same
