pub mod Looking
pub mod Keeping
