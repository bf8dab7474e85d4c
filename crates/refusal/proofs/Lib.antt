-- What the proofs of this crate and of those above it cite. Assumes nothing.
pub mod Apart
pub mod Giving
pub mod Stricter
pub mod Behind
pub mod Bounded
pub mod WhichList
pub mod Lowest
pub mod Laws
pub mod Both
