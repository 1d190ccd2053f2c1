pub mod AtlasNumbers
pub mod Built
pub mod Salvaged
pub mod Page
pub mod WorkedSlip
