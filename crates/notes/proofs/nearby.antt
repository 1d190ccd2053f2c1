-- What the table is with one entry more; and laws on plain values that the functions' proofs cite.
pub mod Seeks
pub mod Grown
pub mod Highest
pub mod Laid
