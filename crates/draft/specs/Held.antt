pub mod Totals
pub mod Space
pub mod Builder
pub mod Calls
pub mod Sound
pub mod State
