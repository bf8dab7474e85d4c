-- What must be believed: docs/READING.md lists it in the order of document 01. Assumes nothing.
pub mod Bytes
pub mod Numerals
pub mod Parts
pub mod Text
pub mod Lent
pub mod Damage
pub mod Demand
