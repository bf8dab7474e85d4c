-- Laws that more than one proof of this crate, or a crate above, cites. Assumes nothing.
pub mod Scanning
pub mod Lowest
pub mod Writing
