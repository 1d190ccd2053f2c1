pub mod Built
pub mod Salvaged
pub mod inner
