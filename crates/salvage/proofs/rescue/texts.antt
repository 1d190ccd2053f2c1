pub mod Texting
