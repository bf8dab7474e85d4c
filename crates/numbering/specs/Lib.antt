-- Numbering by code. Assumes nothing.
pub mod Order
pub mod Sorted
pub mod Turned
pub mod Numbering
pub mod Numbers
pub mod Same
pub mod Pairs
pub mod Bound
pub mod Standing
pub mod Decoded
pub mod Examples
pub mod document
