pub mod Checked
pub mod Room
pub mod Whole
pub mod Metadata
pub mod Entries
pub mod inner
pub mod Lists
