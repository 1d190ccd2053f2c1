pub mod Place
pub mod Box
pub mod Reader
pub mod Encoding
pub mod Trace
pub mod Written
pub mod inner
