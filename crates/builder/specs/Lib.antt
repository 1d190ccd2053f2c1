pub mod Yards
pub mod Sharing
pub mod Metadata
pub mod Entries
pub mod Borders
pub mod File
pub mod Grouping
pub mod inner
