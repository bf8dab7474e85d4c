-- What must be believed: docs/READING.md lists it in the order of document 01. Assumes nothing.
pub mod Order
pub mod Laid
pub mod Once
pub mod Each
