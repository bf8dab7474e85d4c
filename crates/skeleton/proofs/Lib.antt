-- What the proofs of this crate and of those above it cite. Assumes nothing.
pub mod Carbon
pub mod Examples
