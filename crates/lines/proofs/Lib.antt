-- Laws that more than one proof of this crate cites. Assumes nothing.
pub mod Writing
pub mod Locating
pub mod Passing
pub mod Judged
pub mod Plain
pub mod OfEdition
