-- Laws that more than one proof of this crate cites. Assumes nothing.
pub mod Copying
pub mod Standing
pub mod Spots
pub mod Settling
pub mod Arranging
pub mod Depth
pub mod Kids
pub mod Turns
pub mod Neighbours
pub mod Tables
