-- The laws of TZ strings and of summer time.
pub mod Latest
pub mod Guess
pub mod SummerAt
pub mod AllYear
pub mod Numbers
pub mod Steps
pub mod Times
pub mod Letters
pub mod Laws
pub mod Years
pub mod Worked
pub mod Tail
