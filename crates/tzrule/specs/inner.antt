-- What inner functions say to each other: no promise and no theorem of the page speaks of it.
pub mod Reads
pub mod String
