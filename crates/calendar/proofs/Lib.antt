-- The laws of the calendar that callers go by.
pub mod Laws
pub mod Below
pub mod Months
pub mod Rising
pub mod Dates
pub mod Days
pub mod Weeks
pub mod Epoch
pub mod Within
pub mod Sums
pub mod Meant
pub mod Unique
pub mod SameCivil
pub mod CivilAt
pub mod Theorems
pub mod Worked
