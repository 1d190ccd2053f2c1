pub mod Text
pub mod Answer
pub mod Grammar
pub mod Names
pub mod Summer
pub mod String
pub mod Ask
pub mod inner
