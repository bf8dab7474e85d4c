-- What must be believed: docs/READING.md lists it in the order of document 01. Assumes nothing.
pub mod InEdition
pub mod Tabled
pub mod Codes
pub mod Same
pub mod Maps
pub mod Bits
pub mod Matrix
pub mod Lines
pub mod Alike
pub mod Reported
pub mod Demand
pub mod DigitsOnly
pub mod Figures
pub mod Round
