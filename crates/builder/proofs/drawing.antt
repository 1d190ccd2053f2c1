-- Laws on plain values that the functions' proofs cite.
pub mod Knowing
pub mod Lending
pub mod Parted
pub mod Sections
