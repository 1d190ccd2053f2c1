pub mod Answer
pub mod Lines
pub mod Printed
