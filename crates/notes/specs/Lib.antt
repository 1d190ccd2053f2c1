pub mod Chains
pub mod Noted
pub mod inner
