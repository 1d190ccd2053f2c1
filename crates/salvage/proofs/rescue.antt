-- What callers of this crate go by, and laws on plain values that the functions' proofs cite.
pub mod SameSalvage
pub mod NumberedSalvage
