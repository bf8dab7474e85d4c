-- What several functions' proofs share. Assumes nothing.
pub mod Smaller
pub mod Decided
