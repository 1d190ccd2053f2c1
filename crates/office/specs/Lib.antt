pub mod Written
pub mod Salvaged
pub mod Built
pub mod Draft
pub mod Calls
