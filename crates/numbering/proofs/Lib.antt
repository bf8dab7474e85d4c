-- What the proofs of this crate and of those above it cite. Assumes nothing.
pub mod Pairs
pub mod Decoded
pub mod Numbers
pub mod Numbering
pub mod Sorted
pub mod Turned
pub mod Same
pub mod Bound
pub mod Rewritten
