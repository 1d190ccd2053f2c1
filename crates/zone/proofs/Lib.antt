pub mod Asking
pub mod Digits
pub mod Printing
mod Worked
