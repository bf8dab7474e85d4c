-- Laws of lists, and of tests, that more than one crate cites. Assumes nothing.
pub mod Sorting
pub mod Rising
pub mod Laid
pub mod Laying
pub mod Perms
pub mod Once
pub mod Places
pub mod Part
pub mod Falling
pub mod Tells
pub mod Equal
pub mod Each
pub mod document
