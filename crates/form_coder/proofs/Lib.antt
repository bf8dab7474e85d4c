-- Proofs of the coding functions. Assumes nothing.
pub mod Written
pub mod Looked
pub mod Largest
pub mod Again
pub mod Places
