-- Laws on plain values that the functions' proofs cite.
pub mod Found
pub mod Exchanges
pub mod Spots
pub mod Placed
pub mod Agreed
pub mod Renewed
pub mod Resumming
pub mod Answered
