pub mod Buffers
pub mod Strings
pub mod Same
pub mod Numbered
pub mod Unless
pub mod ReadFrom
pub mod StrictHead
pub mod SameHead
pub mod ReadBack
mod Worked
