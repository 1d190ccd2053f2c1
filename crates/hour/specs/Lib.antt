pub mod Line
pub mod Hour
