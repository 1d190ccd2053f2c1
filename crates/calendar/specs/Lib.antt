pub mod Calendar
pub mod Epoch
pub mod Dates
pub mod Rules
pub mod Moments
pub mod Civil
