pub mod Atlas
pub mod Looked
pub mod Beside
pub mod inner
