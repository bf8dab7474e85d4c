-- The fraction form of a rooted code: exact floats, and what is refused. Assumes nothing.
pub mod Floats
pub mod Drawing
pub mod Range
pub mod Writing
pub mod Back
pub mod Examples
pub mod document
