pub mod Items
pub mod Keys
