pub mod Numbered
pub mod ReturnedWhole
pub mod ReturnedSlip
pub mod SameCivil
