-- What must be believed: docs/READING.md lists it in the order of document 01. Assumes nothing.
pub mod Codes
pub mod Same
pub mod Round
pub mod Text
pub mod Demand
pub mod Alike
pub mod Carbon
