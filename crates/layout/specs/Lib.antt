pub mod Order
pub mod inner
