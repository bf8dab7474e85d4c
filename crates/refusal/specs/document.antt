-- What must be believed: docs/READING.md lists it in the order of document 01. Assumes nothing.
pub mod Table
pub mod Outcome
pub mod Given
pub mod Lowest
pub mod Small
pub mod Lists
pub mod Both
pub mod Reported
