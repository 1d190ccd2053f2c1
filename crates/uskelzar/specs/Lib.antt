pub mod Spoken
pub mod Civil
pub mod Many
pub mod Slips
