-- The bit-tuple of a rooted code, and its three carriers. Assumes nothing.
pub mod Ends
pub mod Laws
pub mod Words
pub mod Digit
pub mod Steps
pub mod Found
pub mod Reading
pub mod Answered
pub mod Follow
pub mod Written
pub mod Writing
pub mod Packing
pub mod Examples
pub mod Decided
pub mod document
