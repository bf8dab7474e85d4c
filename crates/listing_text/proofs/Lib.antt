-- Laws that the proofs of this crate cite. Assumes nothing.
pub mod Putting
pub mod Spelling
pub mod Wording
pub mod Passing
