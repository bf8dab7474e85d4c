-- Laws that the proofs of this crate cite. Assumes nothing.
pub mod Parts
pub mod Cutting
pub mod Telling
pub mod Looking
pub mod Writing
