pub mod Hour
pub mod Line
pub mod Slip
pub mod Told
pub mod ReadBack
pub mod Says
